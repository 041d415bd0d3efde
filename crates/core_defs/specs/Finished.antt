-- The core that the lines of a whole text give.
use Rattle.std.specs.Prelude.{◌≡◌, ℕ, ◌+◌, List, [], ◌∷◌, None, slice_index_or}
use Rattle.std.specs.Option.{unwrap_or}
use Rattle.rationals.specs.Rational.{zero_ℚ}
use Rattle.smps_words.specs.declared.row_kind.RowKind.TheVariants.{Less}
use Rattle.core_defs.specs.declared.parts.ColumnDef.{ColumnDef}
use Rattle.core_defs.specs.declared.parts.ColumnPart.{ColumnPart}
use Rattle.core_defs.specs.declared.parts.RowDef.{RowDef}
use Rattle.core_defs.specs.declared.program.Core.{Core}
use Rattle.core_defs.specs.Bounds.{first_bounds}
use Rattle.core_defs.specs.Filed.{Filed, closed}
use Rattle.core_defs.specs.Stated.{name_of_set}

-- the constraint with this number and name; a right-hand side that isn't stated is 0
abbrev pub row_def : Filed → ℕ → List ℕ → RowDef
row_def f place name = record {
  name = name;
  kind = slice_index_or f.kinds place Less;
  rhs = unwrap_or (slice_index_or f.rhs place None) zero_ℚ;
  range = slice_index_or f.ranges place None;
}

-- the constraints with these names, of which the first has this number
abbrev pub row_defs : Filed → ℕ → List (List ℕ) → List RowDef
row_defs f place [] = []
row_defs f place (name ∷ names) = row_def f place name ∷ row_defs f (place + 1) names

-- the column with this number
abbrev pub column_def : Filed → ℕ → ColumnPart → ColumnDef
column_def f place part = record {
  name = slice_index_or f.names place [];
  cost = part.cost;
  entries = part.entries;
  lower = (slice_index_or f.bounds place first_bounds).lower;
  upper = (slice_index_or f.bounds place first_bounds).upper;
}

-- the columns of these parts, of which the first has this number
abbrev pub column_defs : Filed → ℕ → List ColumnPart → List ColumnDef
column_defs f place [] = []
column_defs f place (part ∷ parts) = column_def f place part ∷ column_defs f (place + 1) parts

-- the core has what is filed
pub record IsCoreOf (f : Filed) (core : Core) : Type 0 where
  pub free : f.free ≡ core.objective ∷ core.skipped.items
  pub rhs_set : core.rhs_set ≡ name_of_set f.rhs_set
  pub rows : core.rows.items ≡ row_defs f 0 f.rows
  pub columns : core.columns.items ≡ column_defs f 0 (closed f).parts
