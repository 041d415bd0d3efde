use Rattle.scen_defs.proofs.Runs.{recession_makes_good}
use Rattle.scen_model.proofs.laws.recession_makes_good.Goals as goal

pub returns : goal.returns
returns c = recession_makes_good
