use Rattle.scen_model.proofs.FeasibleEnds.{feasible_is}
use Rattle.scen_model.proofs.laws.tests_are_exact.Goals as goal

pub returns : goal.returns
returns c = feasible_is
