use Rattle.scen_model.proofs.CostEnds.{cost_is}
use Rattle.scen_model.proofs.laws.costs_are_exact.Goals as goal

pub returns : goal.returns
returns c = cost_is
