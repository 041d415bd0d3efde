-- The interval of a row.
use Rattle.std.specs.Prelude.{Option, Some, None, Result, Ok}
use Rattle.rationals.specs.Rational.{ℚ, zero_ℚ, neg_ℚ, at_most}
use Rattle.rationals.specs.Passes.{Operation, add_walk, sub_walk, then_walk}
use Rattle.rationals.specs.Choices.{pick}
use Rattle.smps_words.specs.declared.row_kind.RowKind.{RowKind}
use Rattle.smps_words.specs.declared.row_kind.RowKind.TheVariants.{Less, Greater, Equal}

-- a number without its sign
abbrev pub size : ℚ → ℚ
size r = pick (at_most zero_ℚ r) r (neg_ℚ r)

abbrev pub Interval : Type 0
Interval = Option ℚ × Option ℚ

-- the interval of a row by its kind, its right-hand side b and its range
abbrev pub interval_walk : RowKind → ℚ → Option ℚ → Result Interval Operation
interval_walk Less b None = Ok (None, Some b)
interval_walk Less b (Some r) = then_walk (sub_walk b (size r)) (λ low. Ok (Some low, Some b))
interval_walk Greater b None = Ok (Some b, None)
interval_walk Greater b (Some r) = then_walk (add_walk b (size r)) (λ high. Ok (Some b, Some high))
interval_walk Equal b None = Ok (Some b, Some b)
interval_walk Equal b (Some r) =
    then_walk (add_walk b r) (λ other. pick (at_most zero_ℚ r) (Ok (Some b, Some other)) (Ok (Some other, Some b)))
