-- The entries that places name.
use Rattle.std.specs.Prelude.{ℕ, Option, Some, None}
use Rattle.smps_words.specs.declared.entry.Entry.{Entry}
use Rattle.smps_words.specs.declared.entry.Entry.TheVariants.{Matrix, Rhs}

-- the matrix entry of a column and a row, where there is the row
abbrev pub matrix_at : ℕ → Option ℕ → Option Entry
matrix_at column None = None
matrix_at column (Some row) = Some (Matrix row column)

-- the right-hand side of a row, where there is the row
abbrev pub rhs_at : Option ℕ → Option Entry
rhs_at None = None
rhs_at (Some row) = Some (Rhs row)
