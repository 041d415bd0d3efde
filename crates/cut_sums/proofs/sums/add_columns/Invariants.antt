use Rattle.std.proofs.Common.{◌≡◌, drop}
use Rattle.cut_sums.specs.Walks.{columns_worth}
use Rattle.cut_sums.proofs.sums.add_columns.Given as goal

abbrev pub invariant-loop-column : goal.invariant-loop-column
invariant-loop-column l = columns_worth l.worth (drop l.column-index l.priced) ≡ columns_worth l.fn.start l.priced
