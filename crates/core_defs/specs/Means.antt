-- The core that the lines of a core file mean, taken together.
use Rattle.std.specs.Prelude.{◌≡◌, ℕ, ◌<◌, List, [], ◌∷◌, map, length, get_or, All}
use Rattle.rationals.specs.Sparse.{coefficient}
use Rattle.rationals.specs.Forms.{IsForm, EndsBelow}
use Rattle.smps_words.specs.Line.{TextLine, reading_of}
use Rattle.core_defs.specs.declared.program.Core.{Core}
use Rattle.core_defs.specs.declared.parts.ColumnDef.{ColumnDef}
use Rattle.core_defs.specs.declared.parts.RowDef.{RowDef}
use Rattle.core_defs.specs.Bounds.{bounds_in}
use Rattle.core_defs.specs.Core.{row_names, column_names}
use Rattle.core_defs.specs.Stated.{free_rows, constraints, constraint_kinds, columns, entry_in, rhs_in, range_in, rhs_set_in}

-- the column has the cost, the entries and the bounds that the lines state
pub record IsStatedColumn (lines : List TextLine) (objective : List ℕ) (rows : List (List ℕ)) (column : ColumnDef) : Type 0 where
  pub cost : column.cost ≡ entry_in lines column.name objective
  -- the entries rise by constraint, and none is 0
  pub form : IsForm column.entries
  pub within : EndsBelow (length rows) column.entries
  -- the entry of a constraint is the value that the column has there
  pub entry : (row : ℕ) → row < length rows → coefficient column.entries row ≡ entry_in lines column.name (get_or rows row [])
  pub lower : column.lower ≡ (bounds_in lines column.name).lower
  pub upper : column.upper ≡ (bounds_in lines column.name).upper

-- the constraint has the right-hand side and the range that the lines state
pub record IsStatedRow (lines : List TextLine) (row : RowDef) : Type 0 where
  pub rhs : row.rhs ≡ rhs_in lines row.name
  pub range : row.range ≡ range_in lines row.name

pub record Means (lines : List TextLine) (core : Core) : Type 0 where
  -- the first N row is the objective, and the others are skipped
  pub free : free_rows lines ≡ core.objective ∷ core.skipped.items
  -- the constraints are the other rows, in their order
  pub rows : row_names core.rows.items ≡ constraints lines
  pub kinds : map (λ row. row.kind) core.rows.items ≡ constraint_kinds lines
  -- the columns are those that lines of COLUMNS name, each once, in the order of their first lines
  pub columns : column_names core.columns.items ≡ columns lines
  pub column : All (IsStatedColumn lines core.objective (row_names core.rows.items)) core.columns.items
  pub row : All (IsStatedRow lines) core.rows.items
  pub rhs_set : core.rhs_set ≡ rhs_set_in lines

-- the core that a text means
abbrev pub TextMeans : List ℕ → Core → Type 0
TextMeans text core = Means (reading_of 0 text).lines core
