use Rattle.scen_model.proofs.DualEnds.{dual_is}
use Rattle.scen_model.proofs.laws.duals_are_exact.Goals as goal

pub returns : goal.returns
returns c = dual_is
