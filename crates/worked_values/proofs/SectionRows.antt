-- The rows of SectionValues, computed.
use Rattle.std.proofs.Common.{refl}
use Rattle.rationals.specs.Rational.{◌÷◌, ◌+ℚ◌, neg_ℚ, zero_ℚ, reduce, smaller, divides, nat_divides}
use Rattle.worked_values.specs.SectionValues.{SectionsAreAsDocumented}

pub sections : SectionsAreAsDocumented
unfolding ◌÷◌ ◌+ℚ◌ neg_ℚ zero_ℚ reduce smaller divides nat_divides
sections = record {
  name = refl;
  rows = refl;
  columns = refl;
  rhs = refl;
  ranges = refl;
  bounds = refl;
  end = refl;
  places = refl;
  before_all = refl;
  sense = refl;
  sets = refl;
  quadratic = refl;
  small_letters = refl;
  longer = refl;
  first = refl;
  second = refl;
  third = refl;
  fourth = refl;
  fifth = refl;
  sixth = refl;
  seventh = refl;
  without_name = refl;
  without_rhs = refl;
  without_ranges = refl;
  without_bounds = refl;
  name_twice = refl;
  rows_twice = refl;
  columns_twice = refl;
  rhs_twice = refl;
  ranges_twice = refl;
  bounds_twice = refl;
  name_late = refl;
  rows_late = refl;
  columns_late = refl;
  rhs_late = refl;
  ranges_late = refl;
  data_first = refl;
  data_of_name = refl;
  no_objective = refl;
  no_rows = refl;
  behind_end = refl;
  rows_at_most = refl;
  columns_at_most = refl;
  entries_at_most = refl;
}
