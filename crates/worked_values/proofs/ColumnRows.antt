-- The rows of ColumnValues, computed.
use Rattle.std.proofs.Common.{refl}
use Rattle.rationals.specs.Rational.{◌÷◌, ◌+ℚ◌, neg_ℚ, zero_ℚ, reduce, smaller, divides, nat_divides}
use Rattle.worked_values.specs.ColumnValues.{ColumnsAreAsDocumented}

pub columns : ColumnsAreAsDocumented
unfolding ◌÷◌ ◌+ℚ◌ neg_ℚ zero_ℚ reduce smaller divides nat_divides
columns = record {
  named = refl;
  a_cost = refl;
  a_limit = refl;
  a_need = refl;
  a_sum = refl;
  b_cost = refl;
  b_limit = refl;
  b_need = refl;
  b_sum = refl;
  entries = refl;
  at_least = refl;
  no_upper = refl;
  another_row = refl;
  two_rows = refl;
  zero_twice = refl;
  skipped_twice = refl;
  twice_on_a_line = refl;
  new_column = refl;
  split = refl;
  one_field = refl;
  two_fields = refl;
  four_fields = refl;
  six_fields = refl;
  row_unknown = refl;
  no_number = refl;
  wide_number = refl;
  marker = refl;
}
