-- Fractions that need not be in lowest terms.
use Rattle.std.specs.Prelude.{ℕ, ℤ, ◌<◌, ◌^◌, unsigned_abs}

-- the denominator is above 0, and both parts are below 2 ^ 127 in size
pub record IsUnreduced (num : ℤ) (den : ℕ) : Type 0 where
  pub above_zero : 0 < den
  pub num_fits : unsigned_abs num < 2 ^ 127
  pub den_fits : den < 2 ^ 127
