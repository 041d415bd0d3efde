use Rattle.scen_defs.proofs.Directions.{unboundedness_shown}
use Rattle.scen_model.proofs.laws.unboundedness_is_shown.Goals as goal

pub returns : goal.returns
returns c = unboundedness_shown
