-- COLUMNS: the example of the document.
use Prim.Native.String.{String}
use Rattle.std.specs.Prelude.{◌≡◌, ℕ, List, [], ◌∷◌, ◌++◌, Some, None, codes}
use Rattle.rationals.specs.Rational.{ℚ}
use Rattle.core_defs.specs.Stated.{columns, constraints, entry_in, entry_pairs}
use Rattle.core_defs.specs.Bounds.{bounds_in}
use Rattle.core_defs.specs.Fault.{count_pairs}
use Rattle.worked_values.specs.Told.{whole_ℚ, minus_ℚ, lines_told, refused_behind}
use Rattle.worked_values.specs.RowValues.{example_rows}

abbrev pub example_columns : List ℕ
example_columns = example_rows ++ codes "COLUMNS\n A COST -3 LIM1 1\n A NEED 1\n B WEIGHT 20 SUM 2.5E1\n B NEED 0\n"

-- the value of a column in a row
abbrev pub value_stated : String → String → ℚ
value_stated column row = entry_in (lines_told example_columns) (codes column) (codes row)

pub record ColumnsAreAsDocumented : Type 0 where
  pub named : columns (lines_told example_columns) ≡ codes "A" ∷ codes "B" ∷ []
  -- A costs -3 and has the entry 1 in LIM1 and in NEED
  pub a_cost : value_stated "A" "COST" ≡ minus_ℚ 3
  pub a_limit : value_stated "A" "LIM1" ≡ whole_ℚ 1
  pub a_need : value_stated "A" "NEED" ≡ whole_ℚ 1
  pub a_sum : value_stated "A" "SUM" ≡ whole_ℚ 0
  -- B costs 0 and has the entry 25 in SUM
  pub b_cost : value_stated "B" "COST" ≡ whole_ℚ 0
  pub b_limit : value_stated "B" "LIM1" ≡ whole_ℚ 0
  pub b_need : value_stated "B" "NEED" ≡ whole_ℚ 0
  pub b_sum : value_stated "B" "SUM" ≡ whole_ℚ 25
  -- a value 0 is no entry, and one in an N row is none of a constraint
  pub entries : count_pairs (constraints (lines_told example_columns)) (entry_pairs (lines_told example_columns)) ≡ 3
  -- a column is at least 0 and has no upper bound where BOUNDS says nothing else
  pub at_least : (bounds_in (lines_told example_columns) (codes "A")).lower ≡ Some (whole_ℚ 0)
  pub no_upper : (bounds_in (lines_told example_columns) (codes "A")).upper ≡ None
  -- a row stands once in a column, also one whose value is 0 or that is skipped
  pub another_row : refused_behind example_columns " B LIM1 1" ≡ None
  pub two_rows : refused_behind example_columns " B LIM1 1 COST 2" ≡ None
  pub zero_twice : refused_behind example_columns " B NEED 3" ≡ Some 17
  pub skipped_twice : refused_behind example_columns " B WEIGHT 1" ≡ Some 17
  pub twice_on_a_line : refused_behind example_columns " C LIM1 1 LIM1 1" ≡ Some 17
  -- all lines of a column stand together
  pub new_column : refused_behind example_columns " C LIM1 1" ≡ None
  pub split : refused_behind example_columns " A SUM 1" ≡ Some 16
  -- three or five fields
  pub one_field : refused_behind example_columns " C" ≡ Some 18
  pub two_fields : refused_behind example_columns " C LIM1" ≡ Some 18
  pub four_fields : refused_behind example_columns " C LIM1 1 NEED" ≡ Some 18
  pub six_fields : refused_behind example_columns " C LIM1 1 NEED 1 SUM" ≡ Some 18
  -- a row that isn't known, a text that is no number, a wide number, a line of integers
  pub row_unknown : refused_behind example_columns " C LIM2 1" ≡ Some 15
  pub no_number : refused_behind example_columns " C LIM1 x" ≡ Some 19
  pub wide_number : refused_behind example_columns " C LIM1 1E39" ≡ Some 20
  pub marker : refused_behind example_columns " M 'MARKER' 'INTORG'" ≡ Some 24
