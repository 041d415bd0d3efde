use Rattle.std.proofs.Common.{[]}
use Rattle.interval_form.proofs.RowLemmas.{own_are, bounds_are}
use Rattle.interval_form.proofs.laws.rows_mean.Goals as goal

pub returns : goal.returns
returns c = record {
  rows = λ bs parts trial rows all e. own_are bs parts trial [] rows all e;
  bounds = λ made bs all e. bounds_are 0 made bs all e;
}
