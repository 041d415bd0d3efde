-- Multipliers of a node's rows and weights of the cuts about its children, as lists.
use Rattle.std.specs.Prelude.{List}
use Rattle.rationals.specs.Rational.{ℚ}
use Rattle.rationals.specs.Sparse.{Entry}

-- the multipliers by the number of the row, and a weight for each cut
pub record Weighed : Type 0 where
  pub rows : List Entry
  pub weights : List ℚ
