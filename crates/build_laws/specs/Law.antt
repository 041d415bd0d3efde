-- The builder's loop makes the program that is meant.
use Rattle.std.specs.Prelude.{◌≡◌}
use Rattle.core_defs.specs.declared.program.Core.{Core}
use Rattle.time_defs.specs.Means.{Stages}
use Rattle.stoch_defs.specs.Random.{Random}
use Rattle.build_defs.specs.Built.{built, exceeds}
use Rattle.tree_build.specs.Walks.{build_over, build_walk}
use Rattle.tree_build.specs.Law.{AreCases}

-- The wheels, digits, keys and debuts make the program that is meant, with the first operation that passes where one does, and find
-- too much of it exactly where there is too much.
pub record IsMeant (core : Core) (p : Stages) (random : Random) : Type 0 where
  pub over : build_over core p random ≡ exceeds core p random
  pub walk : build_walk core p random ≡ built core p random

abbrev pub BuiltIsMeant : Type 0
BuiltIsMeant = (core : Core) (p : Stages) (random : Random) → AreCases p random → IsMeant core p random
