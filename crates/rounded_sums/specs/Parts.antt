-- A sum in parts.
use Rattle.std.specs.Prelude.{List}
use Rattle.rationals.specs.Rational.{ℚ}
use Rattle.rationals.specs.Sums.{sum_ℚ}

-- what the parts come to
abbrev pub sum_of : List ℚ → ℚ
sum_of parts = sum_ℚ (λ (part : ℚ). part) parts
