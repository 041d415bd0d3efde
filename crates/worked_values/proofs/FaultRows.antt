-- The rows of FaultOrder, computed.
use Rattle.std.proofs.Common.{refl}
use Rattle.rationals.specs.Rational.{◌÷◌, ◌+ℚ◌, neg_ℚ, zero_ℚ, reduce, smaller, divides, nat_divides}
use Rattle.worked_values.specs.FaultOrder.{FaultsAreInOrder}

pub faults : FaultsAreInOrder
unfolding ◌÷◌ ◌+ℚ◌ neg_ℚ zero_ℚ reduce smaller divides nat_divides
faults = record {
  order_first = refl;
  no_data = refl;
  row_fields = refl;
  row_kind = refl;
  column_fields = refl;
  marker = refl;
  column_name = refl;
  row_name = refl;
  row_value = refl;
  pair_first = refl;
  pair_twice = refl;
  rhs_row = refl;
  rhs_value = refl;
  rhs_objective = refl;
  rhs_twice = refl;
  range_row = refl;
  range_free = refl;
  range_value = refl;
  kind = refl;
  bound_fields = refl;
  bound_column = refl;
  bound_value = refl;
  bound_wide = refl;
  sudden = refl;
}
