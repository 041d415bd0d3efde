use Rattle.scen_model.proofs.FeasibleEnds.{direction_is}
use Rattle.scen_model.proofs.laws.directions_are_exact.Goals as goal

pub returns : goal.returns
returns c = direction_is
