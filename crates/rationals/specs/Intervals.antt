-- Intervals of numbers. An end that is absent sets no bound.
use Rattle.std.specs.Prelude.{Option, Some, None}
use Rattle.rationals.specs.Rational.{ℚ, ◌≤ℚ◌}

abbrev pub AtLeast : Option ℚ → ℚ → Type 0
AtLeast None v = Unit {0}
AtLeast (Some low) v = low ≤ℚ v

abbrev pub AtMost : Option ℚ → ℚ → Type 0
AtMost None v = Unit {0}
AtMost (Some high) v = v ≤ℚ high

-- v lies in the interval
pub record Between (low high : Option ℚ) (v : ℚ) : Type 0 where
  pub above : AtLeast low v
  pub below : AtMost high v

-- the low end isn't above the high end
abbrev pub InOrder : Option ℚ → Option ℚ → Type 0
InOrder None high = Unit {0}
InOrder (Some low) high = AtMost high low
