-- The end of an interval that a multiplier uses.
use Rattle.std.proofs.Common.{true, false, Option, Some, None}
use Rattle.rationals.specs.Rational.{ℚ, zero_ℚ, ◌*ℚ◌, at_most}

-- the end that a multiplier uses: the low one where it is above 0, the high one where it is below 0, and the number 0 where it is 0
abbrev pub used_end : Option ℚ → Option ℚ → ℚ → Option ℚ
used_end low high y = elim (at_most y zero_ℚ) [
  | false ↦ low
  | true ↦ elim (at_most zero_ℚ y) [ false ↦ high | true ↦ Some zero_ℚ ]
]

abbrev pub IsFinite : Option ℚ → Type 0
IsFinite None = ⊥
IsFinite (Some v) = Unit {0}

abbrev pub number : Option ℚ → ℚ
number None = zero_ℚ
number (Some v) = v

-- a multiplier is good where the end that it uses is finite, and its worth is their product
pub record IsGoodAt (low high : Option ℚ) (y : ℚ) : Type 0 where
  pub finite : IsFinite (used_end low high y)

unfoldable pub worth : Option ℚ → Option ℚ → ℚ → ℚ
worth low high y = y *ℚ number (used_end low high y)
