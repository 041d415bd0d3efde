use Rattle.scen_defs.proofs.Recession.{recessions_are_trees}
use Rattle.scen_model.proofs.laws.recessions_are_trees.Goals as goal

pub returns : goal.returns
returns c = recessions_are_trees
