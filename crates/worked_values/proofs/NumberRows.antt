-- The rows of NumberValues, computed.
use Rattle.std.proofs.Common.{refl, ap, pos, negsuc, arith, Ok}
use Rattle.std.specs.Prelude.{neg_ℤ, codes}
use Rattle.rationals.specs.Rational.{frac_same, zero_ℚ}
use Rattle.worked_values.proofs.LongNumbers.{reads_long, reads_shortened}
use Rattle.worked_values.specs.NumberValues.{NumbersAreRead, WideNumbersAreTold}

pub numbers : NumbersAreRead
unfolding zero_ℚ
numbers = record {
  three = refl;
  less_quarter = ap Ok (frac_same (neg_ℤ (pos 25)) (neg_ℤ (pos 1)) 100 4 (omega arith) (omega arith) refl);
  half = ap Ok (frac_same (pos 5) (pos 1) 10 2 (omega arith) (omega arith) refl);
  thousands = refl;
  small = ap Ok (frac_same (pos 2) (pos 1) 10000 5000 (omega arith) (omega arith) refl);
  two_thirds = refl;
  with_plus = refl;
  with_minus = refl;
  two_signs = refl;
  sign_alone = refl;
  sign_behind = refl;
  both_sides = ap Ok (frac_same (pos 125) (pos 25) 10 2 (omega arith) (omega arith) refl);
  before_point = refl;
  after_point = ap Ok (frac_same (neg_ℤ (pos 25)) (neg_ℤ (pos 1)) 100 4 (omega arith) (omega arith) refl);
  point_alone = refl;
  nothing = refl;
  two_points = refl;
  comma = refl;
  letter = refl;
  letter_behind = refl;
  large_e = refl;
  small_e = refl;
  large_d = refl;
  small_d = refl;
  plus_exponent = refl;
  minus_exponent = ap Ok (frac_same (pos 2) (pos 1) 10 5 (omega arith) (omega arith) refl);
  point_last = refl;
  point_first = refl;
  four_digits = refl;
  five_digits = refl;
  no_digits = refl;
  sign_for_digits = refl;
  other_letter = refl;
  exponent_alone = refl;
  exponent_with_point = refl;
  not_lowest = ap Ok (frac_same (pos 6) (pos 3) 4 2 (omega arith) (omega arith) refl);
  less_fraction = ap Ok (frac_same (neg_ℤ (pos 6)) (neg_ℤ (pos 3)) 4 2 (omega arith) (omega arith) refl);
  zeros_before = ap Ok (frac_same (pos 6) (pos 3) 4 2 (omega arith) (omega arith) refl);
  no_part = ap Ok (frac_same (pos 0) (pos 0) 5 1 (omega arith) (omega arith) refl);
  over_zero = refl;
  over_zeros = refl;
  over_nothing = refl;
  nothing_over = refl;
  sign_below = refl;
  point_above = refl;
  point_below = refl;
  exponent_above = refl;
  exponent_below = refl;
  two_slashes = refl;
}

pub wide_numbers : WideNumbersAreTold
unfolding zero_ℚ
wide_numbers = record {
  bound = refl;
  above_fits = refl;
  above_wide = refl;
  not_reduced = refl;
  below_fits = refl;
  below_wide = refl;
  zero_wide = refl;
  power_fits = refl;
  power_wide = refl;
  power_longest = refl;
  places_fit = refl;
  places_wide = refl;
  product_fits = refl;
  product_wide = refl;
  zeros_trimmed = refl;
  zero_places = refl;
  zeros_wide = refl;
  zero_high = refl;
  zero_low = refl;
  digits_fit = reads_long (codes "170141183460469231731687303715884105727") 170141183460469231731687303715884105726 (pos 0) _ refl refl refl;
  digits_wide = reads_long (codes "-170141183460469231731687303715884105728") 170141183460469231731687303715884105727 (pos 0) _ refl refl refl;
  tenths_fit = reads_long (codes "17014118346046923173168730371588410572.7") 170141183460469231731687303715884105726 (negsuc 0) _ refl refl refl;
  tenths_wide = reads_long (codes "17014118346046923173168730371588410572.8") 170141183460469231731687303715884105727 (negsuc 0) _ refl refl refl;
  last_zero_trimmed = reads_shortened (codes "17014118346046923173168730371588410572.70") 1701411834604692317316873037158841057268 (negsuc 1) _ refl refl refl refl;
  long_product_wide = reads_shortened (codes "1701411834604692317316873037158841057270") 1701411834604692317316873037158841057268 (pos 0) _ refl refl refl refl;
}
