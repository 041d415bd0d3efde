-- What multipliers are worth, rounded.
use Rattle.std.specs.Prelude.{ℕ}
use Rattle.rationals.specs.Rational.{ℚ}
use Rattle.scen_defs.specs.Flat.{IsGood, value}
use Rattle.scen_defs.specs.Program.{View}
use Rattle.rounded_sums.specs.declared.side.Side.{Side}
use Rattle.rounded_sums.specs.Sides.{Beside}

-- the multipliers are good, and this number stands on the side of what they are worth
pub record IsWorthAll (side : Side) (v : View) (y : ℕ → ℕ → ℚ) (q : ℚ) : Type 0 where
  pub good : IsGood v y
  pub beside : Beside side (value v y) q
