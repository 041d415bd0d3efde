-- The entries of rows, gathered column by column.
use Rattle.std.specs.Prelude.{ℕ, suc, List, [], ◌∷◌, ◌++◌}
use Rattle.rationals.specs.Sparse.{Entry, coefficient}
use Rattle.rationals.specs.Forms.{put}
use Rattle.core_defs.specs.declared.parts.RowDef.{RowDef}
use Rattle.core_defs.specs.declared.parts.ColumnDef.{ColumnDef}

-- the forms of rows, each with the row's entry in column j; the first row has the number i
abbrev pub with_column : ℕ → List Entry → ℕ → List (List Entry) → List (List Entry)
with_column j entries i [] = []
with_column j entries i (form ∷ forms) = (form ++ put j (coefficient entries i) []) ∷ with_column j entries (suc i) forms

-- the entries of row i by column
abbrev pub entries_from : ℕ → ℕ → List ColumnDef → List Entry
entries_from i j [] = []
entries_from i j (c ∷ cs) = put j (coefficient c.entries i) (entries_from i (suc j) cs)

-- the entries of each row, of which the first has the number i
abbrev pub forms_from : List ColumnDef → ℕ → List RowDef → List (List Entry)
forms_from cs i [] = []
forms_from cs i (r ∷ rs) = entries_from i 0 cs ∷ forms_from cs (suc i) rs
