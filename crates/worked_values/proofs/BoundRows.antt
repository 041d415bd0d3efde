-- The rows of BoundValues, computed.
use Rattle.std.proofs.Common.{refl}
use Rattle.rationals.specs.Rational.{◌÷◌, ◌+ℚ◌, neg_ℚ, zero_ℚ, reduce, smaller, divides, nat_divides}
use Rattle.worked_values.specs.BoundValues.{BoundsAreAsDocumented}

pub bounds : BoundsAreAsDocumented
unfolding ◌÷◌ ◌+ℚ◌ neg_ℚ zero_ℚ reduce smaller divides nat_divides
bounds = record {
  lower = refl;
  upper = refl;
  fixed = refl;
  free = refl;
  no_lower = refl;
  no_upper = refl;
  binary = refl;
  integer_lower = refl;
  integer_upper = refl;
  small_letters = refl;
  no_line = refl;
  lo = refl;
  lo_none = refl;
  up = refl;
  up_zero = refl;
  up_none = refl;
  up_negative = refl;
  fx = refl;
  fr = refl;
  mi = refl;
  pl = refl;
  behind_lo = refl;
  behind_lo_zero = refl;
  behind_fx = refl;
  behind_fr = refl;
  behind_mi = refl;
  behind_pl = refl;
  behind_up = refl;
  lo_beyond = refl;
  lo_within = refl;
  lo_high = refl;
  up_beyond = refl;
  up_within = refl;
  up_low = refl;
  fx_high = refl;
  fx_low = refl;
  lo_plain = refl;
  up_plain = refl;
  fx_plain = refl;
  fr_plain = refl;
  mi_plain = refl;
  pl_plain = refl;
  fr_skips = refl;
  mi_skips = refl;
  pl_skips = refl;
  lo_two = refl;
  lo_five = refl;
  up_two = refl;
  up_five = refl;
  fx_two = refl;
  fx_five = refl;
  fr_one = refl;
  fr_five = refl;
  mi_one = refl;
  mi_five = refl;
  pl_one = refl;
  pl_five = refl;
  other_set = refl;
  other_unknown = refl;
  set_without_name = refl;
  name_left_out = refl;
  other_fields = refl;
  other_kind = refl;
  other_column = refl;
  lo_crosses = refl;
  up_crosses = refl;
  equal_fits = refl;
}
