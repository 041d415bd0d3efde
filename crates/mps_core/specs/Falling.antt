-- The terms of a column whose lines begin in falling order.
use Rattle.std.specs.Prelude.{ℕ, List, ◌++◌, reverse}
use Rattle.rationals.specs.Rational.{ℚ}
use Rattle.rationals.specs.Sparse.{Entry}
use Rattle.core_defs.specs.Terms.{terms_of}

-- the terms whose rows came in falling order, and then the others
abbrev pub terms_in : List Entry → List (ℕ × ℚ) → List Entry
terms_in falling pairs = reverse falling ++ terms_of pairs
