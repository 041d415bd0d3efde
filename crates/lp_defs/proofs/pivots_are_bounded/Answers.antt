use Rattle.lp_defs.proofs.Bound.{pivots_are_bounded}
use Rattle.lp_defs.proofs.pivots_are_bounded.Goals as goal

pub returns : goal.returns
returns c = pivots_are_bounded
