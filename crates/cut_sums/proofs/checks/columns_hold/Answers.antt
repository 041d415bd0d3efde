use Rattle.std.proofs.Common.{sym, ◌∙◌}
use Rattle.cut_sums.proofs.DatumLaws.{bounds_rise}
use Rattle.cut_sums.proofs.checks.columns_hold.Goals as goal

pub costs_hold-requires : goal.costs_hold-requires
costs_hold-requires c = bounds_rise c.args.bounds.now (sym c.bounds_hold.ensures ∙ c.if-bounds_hold.true)
