use Rattle.scen_defs.proofs.Duality.{weak_duality}
use Rattle.scen_model.proofs.laws.weak_duality_holds.Goals as goal

pub returns : goal.returns
returns c = weak_duality
