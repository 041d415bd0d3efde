-- The rows of SetValues, computed.
use Rattle.std.proofs.Common.{refl}
use Rattle.rationals.specs.Rational.{◌÷◌, ◌+ℚ◌, neg_ℚ, zero_ℚ, reduce, smaller, divides, nat_divides}
use Rattle.worked_values.specs.SetValues.{RightSidesAreAsDocumented, RangesAreAsDocumented}

pub right_sides : RightSidesAreAsDocumented
unfolding ◌÷◌ ◌+ℚ◌ neg_ℚ zero_ℚ reduce smaller divides nat_divides
right_sides = record {
  two_fields = refl;
  three_fields = refl;
  four_fields = refl;
  five_fields = refl;
  used = refl;
  named = refl;
  not_named = refl;
  no_set = refl;
  used_without_name = refl;
  first_not_named = refl;
  header_alone = refl;
  no_section = refl;
  named_limit = refl;
  named_need = refl;
  named_sum = refl;
  plain_limit = refl;
  plain_need = refl;
  plain_sum = refl;
  first_without_name = refl;
  then_another_set = refl;
  absent = refl;
  behind_named = refl;
  no_lines = refl;
  other_twice = refl;
  other_unknown = refl;
  other_fields = refl;
  one_field = refl;
  objective_zero = refl;
  objective_other = refl;
  skipped = refl;
  twice = refl;
  row_unknown = refl;
  no_number = refl;
  wide_number = refl;
}

pub ranges : RangesAreAsDocumented
unfolding ◌÷◌ ◌+ℚ◌ neg_ℚ zero_ℚ reduce smaller divides nat_divides
ranges = record {
  limit = refl;
  need = refl;
  sum = refl;
  absent = refl;
  first_without_name = refl;
  then_another_set = refl;
  other_unknown = refl;
  other_fields = refl;
  one_field = refl;
  objective = refl;
  skipped = refl;
  twice = refl;
  row_unknown = refl;
  no_number = refl;
  wide_number = refl;
}
