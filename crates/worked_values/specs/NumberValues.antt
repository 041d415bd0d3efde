-- Numbers as texts: each form, those that are wide, and those that are none.
use Prim.Native.String.{String}
use Rattle.std.specs.Prelude.{◌≡◌, ℕ, pos, neg_ℤ, ◌^◌, ◌*◌, ◌-◌, Ok, Err, codes}
use Rattle.rationals.specs.Rational.{ℚ, ◌÷◌}
use Rattle.frac128.specs.declared.text.NumFault.TheVariants.{Bad, Wide}
use Rattle.frac128.specs.Numbers.{read_number}
use Rattle.worked_values.specs.Told.{whole_ℚ, minus_ℚ}

-- the largest size of a numerator and of a denominator
abbrev pub largest : ℕ
largest = 170141183460469231731687303715884105727

-- the text is this number; it is none; it is a wide one
abbrev pub IsNumber : String → ℚ → Type 0
IsNumber text value = read_number (codes text) ≡ Ok value

abbrev pub IsBad : String → Type 0
IsBad text = read_number (codes text) ≡ Err Bad

abbrev pub IsWide : String → Type 0
IsWide text = read_number (codes text) ≡ Err Wide

-- Numbers are decimals and fractions with or without a sign, and are read exactly.
pub record NumbersAreRead : Type 0 where
  -- the examples of the document
  pub three : IsNumber "3" (whole_ℚ 3)
  pub less_quarter : IsNumber "-0.25" (neg_ℤ (pos 1) ÷ 4)
  pub half : IsNumber ".5" (pos 1 ÷ 2)
  pub thousands : IsNumber "1.5E3" (whole_ℚ 1500)
  pub small : IsNumber "2d-4" (pos 1 ÷ 5000)
  pub two_thirds : IsNumber "2/3" (pos 2 ÷ 3)
  -- a sign, or none
  pub with_plus : IsNumber "+3" (whole_ℚ 3)
  pub with_minus : IsNumber "-3" (minus_ℚ 3)
  pub two_signs : IsBad "+-3"
  pub sign_alone : IsBad "-"
  pub sign_behind : IsBad "3-"
  -- the point may lack, and so may the digits on one side of it
  pub both_sides : IsNumber "12.5" (pos 25 ÷ 2)
  pub before_point : IsNumber "12." (whole_ℚ 12)
  pub after_point : IsNumber "-.25" (neg_ℤ (pos 1) ÷ 4)
  pub point_alone : IsBad "."
  pub nothing : IsBad ""
  pub two_points : IsBad "1.2.3"
  pub comma : IsBad "1,2"
  pub letter : IsBad "x"
  pub letter_behind : IsBad "1x"
  -- an exponent: one of four letters, a sign or none, one to four digits
  pub large_e : IsNumber "2E1" (whole_ℚ 20)
  pub small_e : IsNumber "2e1" (whole_ℚ 20)
  pub large_d : IsNumber "2D1" (whole_ℚ 20)
  pub small_d : IsNumber "2d1" (whole_ℚ 20)
  pub plus_exponent : IsNumber "2E+1" (whole_ℚ 20)
  pub minus_exponent : IsNumber "2E-1" (pos 1 ÷ 5)
  pub point_last : IsNumber "5.E1" (whole_ℚ 50)
  pub point_first : IsNumber ".5E1" (whole_ℚ 5)
  pub four_digits : IsNumber "2E0001" (whole_ℚ 20)
  pub five_digits : IsBad "2E00001"
  pub no_digits : IsBad "2E"
  pub sign_for_digits : IsBad "2E+"
  pub other_letter : IsBad "2F1"
  pub exponent_alone : IsBad "E1"
  pub exponent_with_point : IsBad "2E1.0"
  -- a fraction: digits, a slash, and digits that aren't all 0; no point and no exponent
  pub not_lowest : IsNumber "6/4" (pos 3 ÷ 2)
  pub less_fraction : IsNumber "-6/4" (neg_ℤ (pos 3) ÷ 2)
  pub zeros_before : IsNumber "06/04" (pos 3 ÷ 2)
  pub no_part : IsNumber "0/5" (whole_ℚ 0)
  pub over_zero : IsBad "6/0"
  pub over_zeros : IsBad "6/00"
  pub over_nothing : IsBad "6/"
  pub nothing_over : IsBad "/4"
  pub sign_below : IsBad "6/-4"
  pub point_above : IsBad "1.5/2"
  pub point_below : IsBad "1/2.5"
  pub exponent_above : IsBad "1E1/2"
  pub exponent_below : IsBad "1/2E1"
  pub two_slashes : IsBad "6/4/2"

-- A number is wide as it is written: the bound is 2 ^ 127 - 1 = 170141183460469231731687303715884105727.
pub record WideNumbersAreTold : Type 0 where
  -- a fraction by each of its parts
  pub bound : largest ≡ 2 ^ 127 - 1
  pub above_fits : IsNumber "170141183460469231731687303715884105727/1" (whole_ℚ largest)
  pub above_wide : IsWide "170141183460469231731687303715884105728/1"
  pub not_reduced : IsWide "170141183460469231731687303715884105728/2"
  pub below_fits : IsNumber "-1/170141183460469231731687303715884105727" (neg_ℤ (pos 1) ÷ largest)
  pub below_wide : IsWide "1/170141183460469231731687303715884105728"
  pub zero_wide : IsWide "0/170141183460469231731687303715884105728"
  -- a decimal by the power of ten, of either sign
  pub power_fits : IsNumber "1E38" (whole_ℚ (10 ^ 38))
  pub power_wide : IsWide "1E39"
  pub power_longest : IsWide "-1E9999"
  pub places_fit : IsNumber "1E-38" (pos 1 ÷ (10 ^ 38))
  pub places_wide : IsWide "1E-39"
  -- by the product, for an exponent above 0
  pub product_fits : IsNumber "17E37" (whole_ℚ (17 * 10 ^ 37))
  pub product_wide : IsWide "18E37"
  -- the whole number doesn't end in the digit 0: this is 1E-38, and that is 1E39
  pub zeros_trimmed : IsNumber "10E-39" (pos 1 ÷ (10 ^ 38))
  pub zero_places : IsNumber "1.0E-38" (pos 1 ÷ (10 ^ 38))
  pub zeros_wide : IsWide "100E37"
  -- 0 is 0 with any exponent
  pub zero_high : IsNumber "0E9999" (whole_ℚ 0)
  pub zero_low : IsNumber "-0.0E-9999" (whole_ℚ 0)
  -- by the whole number, of any length, that doesn't end in the digit 0
  pub digits_fit : IsNumber "170141183460469231731687303715884105727" (whole_ℚ largest)
  pub digits_wide : IsWide "-170141183460469231731687303715884105728"
  pub tenths_fit : IsNumber "17014118346046923173168730371588410572.7" (pos largest ÷ 10)
  pub tenths_wide : IsWide "17014118346046923173168730371588410572.8"
  pub last_zero_trimmed : IsNumber "17014118346046923173168730371588410572.70" (pos largest ÷ 10)
  pub long_product_wide : IsWide "1701411834604692317316873037158841057270"
