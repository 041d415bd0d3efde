-- Numbers that are rounded to one side.
use Rattle.rationals.specs.Rational.{ℚ, zero_ℚ, ◌≤ℚ◌, at_most}
use Rattle.rationals.specs.Choices.{pick}
use Rattle.rounded_sums.specs.declared.side.Side.{Side}
use Rattle.rounded_sums.specs.declared.side.Side.TheVariants.{Above, Below}

-- a rounded number stands on this side of the exact one, or is equal to it
abbrev pub Beside : Side → ℚ → ℚ → Type 0
Beside Above exact rounded = exact ≤ℚ rounded
Beside Below exact rounded = rounded ≤ℚ exact

abbrev pub opposite : Side → Side
opposite Above = Below
opposite Below = Above

-- the side on which a factor is rounded, so that its product with the other one stands on this side
abbrev pub factor_side : Side → ℚ → Side
factor_side side other = pick (at_most zero_ℚ other) side (opposite side)
