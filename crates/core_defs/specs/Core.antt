-- What holds of every core.
use Rattle.std.specs.Prelude.{ℕ, ◌<◌, ◌^◌, List, map, length, All}
use Rattle.rationals.specs.Intervals.{InOrder}
use Rattle.rationals.specs.Forms.{IsForm, EndsBelow}
use Rattle.smps_words.specs.Field.{IsField}
use Rattle.smps_words.specs.Names.{IsNumbered}
use Rattle.core_defs.specs.declared.parts.RowDef.{RowDef}
use Rattle.core_defs.specs.declared.parts.ColumnDef.{ColumnDef}

-- the names of the constraints, in their order
abbrev pub row_names : List RowDef → List (List ℕ)
row_names rows = map (λ row. row.name) rows

-- the names of the columns, in their order
abbrev pub column_names : List ColumnDef → List (List ℕ)
column_names columns = map (λ column. column.name) columns

-- of the constraints and the columns of a core
pub record IsCore (rows : List RowDef) (columns : List ColumnDef) : Type 0 where
  pub few_rows : length rows < 2 ^ 32
  pub few_columns : length columns < 2 ^ 32
  -- no two constraints have one name, and no two columns
  pub rows_differ : IsNumbered (row_names rows)
  pub columns_differ : IsNumbered (column_names columns)
  pub row_fields : All IsField (row_names rows)
  pub column_fields : All IsField (column_names columns)
  -- a column's entries rise by constraint and aren't 0
  pub forms : All (λ column. IsForm column.entries) columns
  -- they are of constraints that are there
  pub within : All (λ column. EndsBelow (length rows) column.entries) columns
  -- no lower bound is above the upper one
  pub in_order : All (λ column. InOrder column.lower column.upper) columns
