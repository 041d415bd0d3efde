-- The rows of RowValues, computed.
use Rattle.std.proofs.Common.{refl}
use Rattle.rationals.specs.Rational.{◌÷◌, ◌+ℚ◌, neg_ℚ, zero_ℚ, reduce, smaller, divides, nat_divides}
use Rattle.worked_values.specs.RowValues.{RowsAreAsDocumented}

pub rows : RowsAreAsDocumented
unfolding ◌÷◌ ◌+ℚ◌ neg_ℚ zero_ℚ reduce smaller divides nat_divides
rows = record {
  free = refl;
  less = refl;
  greater = refl;
  equal = refl;
  other = refl;
  small_letter = refl;
  longer = refl;
  objective_first = refl;
  the_constraints = refl;
  their_kinds = refl;
  new_name = refl;
  constraint_twice = refl;
  constraint_as_free = refl;
  objective_as_constraint = refl;
  skipped_twice = refl;
  kind_unknown = refl;
  one_field = refl;
  three_fields = refl;
}
