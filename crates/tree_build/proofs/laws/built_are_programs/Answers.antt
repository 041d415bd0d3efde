use Rattle.tree_build.proofs.Programs.{built_are_programs}
use Rattle.tree_build.proofs.laws.built_are_programs.Goals as goal

pub returns : goal.returns
returns c = built_are_programs
