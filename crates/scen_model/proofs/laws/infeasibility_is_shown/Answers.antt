use Rattle.scen_defs.proofs.Duality.{infeasibility_shown}
use Rattle.scen_model.proofs.laws.infeasibility_is_shown.Goals as goal

pub returns : goal.returns
returns c = infeasibility_shown
