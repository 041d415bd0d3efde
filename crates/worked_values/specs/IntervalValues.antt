-- Between which ends a constraint lies, by its kind, its right-hand side and its range.
use Rattle.std.specs.Prelude.{◌≡◌, ◌-◌, ◌^◌, false, Option, Some, None, Result, Ok, Err}
use Rattle.rationals.specs.declared.Op.TheVariants.{Add}
use Rattle.rationals.specs.Rational.{ℚ, zero_ℚ, ◌+ℚ◌, ◌-ℚ◌, ◌≤ℚ◌, ◌<ℚ◌}
use Rattle.rationals.specs.Passes.{Operation, too_wide}
use Rattle.smps_words.specs.declared.row_kind.RowKind.{RowKind}
use Rattle.smps_words.specs.declared.row_kind.RowKind.TheVariants.{Less, Greater, Equal}
use Rattle.smps_build.specs.Ends.{Interval, interval_walk}
use Rattle.worked_values.specs.Told.{whole_ℚ, minus_ℚ}

-- the interval where the right-hand side is 4
abbrev pub ends_at_four : RowKind → Option ℚ → Result Interval Operation
ends_at_four kind range = interval_walk kind (whole_ℚ 4) range

abbrev pub one_to_four : Result Interval Operation
one_to_four = Ok (Some (whole_ℚ 1), Some (whole_ℚ 4))

abbrev pub four_to_seven : Result Interval Operation
four_to_seven = Ok (Some (whole_ℚ 4), Some (whole_ℚ 7))

abbrev pub four_alone : Result Interval Operation
four_alone = Ok (Some (whole_ℚ 4), Some (whole_ℚ 4))

pub record IntervalsAreAsDocumented : Type 0 where
  -- without a range: L up to b, G from b, E equal to b
  pub less : (b : ℚ) → interval_walk Less b None ≡ Ok (None, Some b)
  pub greater : (b : ℚ) → interval_walk Greater b None ≡ Ok (Some b, None)
  pub equal : (b : ℚ) → interval_walk Equal b None ≡ Ok (Some b, Some b)
  -- with a range R that is at least 0, where the end fits into 128 bits: L from b - R up to b, G and E from b up to b + R
  pub less_from : (b r : ℚ) → zero_ℚ ≤ℚ r → too_wide (b -ℚ r) ≡ false → interval_walk Less b (Some r) ≡ Ok (Some (b -ℚ r), Some b)
  pub greater_to : (b r : ℚ) → zero_ℚ ≤ℚ r → too_wide (b +ℚ r) ≡ false → interval_walk Greater b (Some r) ≡ Ok (Some b, Some (b +ℚ r))
  pub equal_to : (b r : ℚ) → zero_ℚ ≤ℚ r → too_wide (b +ℚ r) ≡ false → interval_walk Equal b (Some r) ≡ Ok (Some b, Some (b +ℚ r))
  -- with one below 0, whose size is -R: L and E from b + R up to b, G from b up to b - R
  pub less_from_size : (b r : ℚ) → r <ℚ zero_ℚ → too_wide (b +ℚ r) ≡ false → interval_walk Less b (Some r) ≡ Ok (Some (b +ℚ r), Some b)
  pub greater_to_size : (b r : ℚ) → r <ℚ zero_ℚ → too_wide (b -ℚ r) ≡ false
      → interval_walk Greater b (Some r) ≡ Ok (Some b, Some (b -ℚ r))
  pub equal_from : (b r : ℚ) → r <ℚ zero_ℚ → too_wide (b +ℚ r) ≡ false → interval_walk Equal b (Some r) ≡ Ok (Some (b +ℚ r), Some b)
  -- the right-hand side 4 with a range 3, -3 or 0: L
  pub less_above : ends_at_four Less (Some (whole_ℚ 3)) ≡ one_to_four
  pub less_below : ends_at_four Less (Some (minus_ℚ 3)) ≡ one_to_four
  pub less_zero : ends_at_four Less (Some (whole_ℚ 0)) ≡ four_alone
  -- G
  pub greater_above : ends_at_four Greater (Some (whole_ℚ 3)) ≡ four_to_seven
  pub greater_below : ends_at_four Greater (Some (minus_ℚ 3)) ≡ four_to_seven
  pub greater_zero : ends_at_four Greater (Some (whole_ℚ 0)) ≡ four_alone
  -- E
  pub equal_above : ends_at_four Equal (Some (whole_ℚ 3)) ≡ four_to_seven
  pub equal_below : ends_at_four Equal (Some (minus_ℚ 3)) ≡ one_to_four
  pub equal_zero : ends_at_four Equal (Some (whole_ℚ 0)) ≡ four_alone
  -- an end that doesn't fit into 128 bits: the operation is named
  pub passing : interval_walk Greater (whole_ℚ (2 ^ 127 - 1)) (Some (minus_ℚ 1))
      ≡ Err (record { op = Add; a = whole_ℚ (2 ^ 127 - 1); b = whole_ℚ 1 })
