-- The lists of parents that a table can be made of.
use Rattle.std.specs.Prelude.{ℕ, ◌<◌, List, length}
use Rattle.pass_table.specs.Marks.{nothing}
use Rattle.pass_table.specs.Walks.{IsRising}

-- the nodes are numbered from the root on: there is a root, and every other node's parent has a smaller number; their numbers have 32 bits
pub record AreParents (parents : List ℕ) : Type 0 where
  pub rooted : 0 < length parents
  pub few : length parents < nothing
  pub rising : IsRising parents
