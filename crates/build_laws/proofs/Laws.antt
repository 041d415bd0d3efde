-- The builder's loop makes the program that is meant.
use Rattle.stoch_defs.specs.Random.Random.{Blocks, Branches}
use Rattle.build_laws.proofs.Meant.{numbered_are_meant}
use Rattle.build_laws.specs.Law.{BuiltIsMeant}
use Rattle.tree_build.specs.Law.{AreCases}
use Rattle.time_defs.specs.Means.{Stages}
use Rattle.stoch_defs.specs.Random.{Random}
use Rattle.build_laws.proofs.Numbered.{IsNumbered}
use Rattle.build_laws.proofs.BlockLaws.{blocks_numbered}
use Rattle.build_laws.proofs.BranchLaws.{branches_numbered}

-- the scenarios that are counted, and their nodes, which are numbered by keys, are those that are meant
are_numbered : (p : Stages) (random : Random) → AreCases p random → IsNumbered p random
are_numbered p (Blocks blocks) cases = blocks_numbered p blocks
are_numbered p (Branches branches) cases = branches_numbered p branches cases

pub built_is_meant : BuiltIsMeant
built_is_meant core p random cases = numbered_are_meant core p random cases (are_numbered p random cases)
