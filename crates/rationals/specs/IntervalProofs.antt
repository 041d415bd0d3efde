-- That ends are in order has one proof at most, so a type can keep it.
use Rattle.std.specs.Prelude.{Option, Some, None}
use Rattle.std.specs.Coded.{Unit-prop}
use Rattle.std.proofs.Props.{props}
use Rattle.rationals.specs.Rational.{ℚ}
use Rattle.rationals.specs.Intervals.{InOrder}

pub in_order_prop : (low high : Option ℚ) → IsProp (InOrder low high)
in_order_prop None high = Unit-prop
in_order_prop (Some low) None = Unit-prop
in_order_prop (Some low) (Some high) = hlevel props
