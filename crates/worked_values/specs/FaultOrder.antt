-- In which order a line is looked at: lines with two faults, of which the first is named.
use Rattle.std.specs.Prelude.{◌≡◌, ◌++◌, Some, codes}
use Rattle.worked_values.specs.Told.{refused_behind}
use Rattle.worked_values.specs.ColumnValues.{example_columns}
use Rattle.worked_values.specs.SetValues.{named_rhs, named_ranges}
use Rattle.worked_values.specs.BoundValues.{before_bounds}

pub record FaultsAreInOrder : Type 0 where
  -- a header: unknown, then out of order, then COLUMNS without an N row
  pub order_first : refused_behind (codes "RHS\n") "COLUMNS" ≡ Some 11
  -- a section that takes no data line, then anything else
  pub no_data : refused_behind (codes "NAME\n") " Q" ≡ Some 11
  -- in ROWS the number of fields, the kind, the name
  pub row_fields : refused_behind example_columns " LIM1" ≡ Some 18
  pub row_kind : refused_behind (codes "ROWS\n N COST\n") " Q COST" ≡ Some 13
  -- in COLUMNS the number of fields, a MARKER line, the column, the row, the value
  pub column_fields : refused_behind example_columns " A 'MARKER'" ≡ Some 18
  pub marker : refused_behind example_columns " A 'MARKER' 'INTORG'" ≡ Some 24
  pub column_name : refused_behind example_columns " A LIM2 x" ≡ Some 16
  pub row_name : refused_behind example_columns " C LIM2 x" ≡ Some 15
  pub row_value : refused_behind example_columns " B NEED x" ≡ Some 19
  -- the first pair, then the second
  pub pair_first : refused_behind example_columns " C LIM1 x LIM2 1" ≡ Some 19
  pub pair_twice : refused_behind example_columns " B NEED 1 LIM2 1" ≡ Some 17
  -- in RHS the row, the value, an objective's other than 0, a value twice
  pub rhs_row : refused_behind named_rhs " NOW LIM2 x" ≡ Some 15
  pub rhs_value : refused_behind named_rhs " NOW LIM1 x" ≡ Some 19
  pub rhs_objective : refused_behind (named_rhs ++ codes " NOW COST 0\n") " NOW COST 1" ≡ Some 25
  pub rhs_twice : refused_behind (named_rhs ++ codes " NOW COST 0\n") " NOW COST 0" ≡ Some 17
  -- in RANGES the row, an N row, the value, a value twice
  pub range_row : refused_behind named_ranges " RNG LIM2 x" ≡ Some 15
  pub range_free : refused_behind named_ranges " RNG COST x" ≡ Some 27
  pub range_value : refused_behind named_ranges " RNG LIM1 x" ≡ Some 19
  -- in BOUNDS the kind, the number of fields, the column, the value, UP below 0, bounds that cross
  pub kind : refused_behind before_bounds " BV" ≡ Some 21
  pub bound_fields : refused_behind before_bounds " UP Q" ≡ Some 18
  pub bound_column : refused_behind before_bounds " UP BND Q x" ≡ Some 28
  pub bound_value : refused_behind before_bounds " UP BND A x" ≡ Some 19
  pub bound_wide : refused_behind before_bounds " UP BND A -1E39" ≡ Some 20
  pub sudden : refused_behind before_bounds " UP BND A -1" ≡ Some 23
