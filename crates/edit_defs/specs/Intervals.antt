-- The interval of a row by its kind, its right-hand side and its range, and how far its ends lie apart.
use Rattle.std.specs.Prelude.{◌≡◌, Option, Some, None, Result}
use Rattle.rationals.specs.Rational.{ℚ, zero_ℚ, ◌+ℚ◌, ◌-ℚ◌, at_most}
use Rattle.rationals.specs.Passes.{Operation}
use Rattle.rationals.specs.Choices.{pick}
use Rattle.smps_words.specs.declared.row_kind.RowKind.{RowKind}
use Rattle.smps_words.specs.declared.row_kind.RowKind.TheVariants.{Less, Greater, Equal}
use Rattle.scen_defs.specs.declared.program.Row.{Row}
use Rattle.scen_defs.specs.declared.program.NodeRow.{NodeRow}
use Rattle.smps_build.specs.Ends.{size, Interval, interval_walk}

-- the low and the high end that `interval_walk` comes to where no operation of it passes
abbrev pub interval : RowKind → ℚ → Option ℚ → Interval
interval Less b None = (None, Some b)
interval Less b (Some r) = (Some (b -ℚ size r), Some b)
interval Greater b None = (Some b, None)
interval Greater b (Some r) = (Some b, Some (b +ℚ size r))
interval Equal b None = (Some b, Some b)
interval Equal b (Some r) = pick (at_most zero_ℚ r) (Some b, Some (b +ℚ r)) (Some (b +ℚ r), Some b)

-- the interval of a row with this right-hand side, and the walk to it
abbrev pub right_side : Row → ℚ → Interval
right_side row b = interval row.kind b row.range

abbrev pub right_walk : Row → ℚ → Result Interval Operation
right_walk row b = interval_walk row.kind b row.range

-- how far two finite ends lie apart
abbrev pub width : Option ℚ → ℚ
width None = zero_ℚ
width (Some r) = size r

-- where both ends are finite, they lie apart by the size of the range, or are equal where there is none
abbrev pub Apart : Option ℚ → Option ℚ → ℚ → Type 0
Apart (Some low) (Some high) w = high ≡ low +ℚ w
Apart (Some low) None w = Unit {0}
Apart None high w = Unit {0}

pub record HasWidth (row : Row) (r : NodeRow) : Type 0 where
  pub apart : Apart r.low r.high (width row.range)
