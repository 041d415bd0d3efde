use Rattle.scen_defs.proofs.Valid.{programs_are_trees}
use Rattle.scen_model.proofs.laws.programs_are_trees.Goals as goal

pub returns : goal.returns
returns c = programs_are_trees
