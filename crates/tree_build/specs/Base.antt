-- What a core states of the nodes of a stage, gathered column by column and row by row.
use Rattle.std.specs.Prelude.{ℕ, suc, List, [], ◌∷◌, get_or, length, nat_eq, nat_lt, ◌&&◌}
use Rattle.rationals.specs.Sparse.{Entry as Term}
use Rattle.rationals.specs.Forms.{put}
use Rattle.rationals.specs.Choices.{pick}
use Rattle.core_defs.specs.declared.parts.ColumnDef.{ColumnDef}
use Rattle.core_defs.specs.declared.parts.RowDef.{RowDef}
use Rattle.stoch_defs.specs.Entries.{no_column, no_row}
use Rattle.tree_build.specs.declared.parts.RowValues.{RowValues}

-- the costs of the columns of a stage, the first of which has the number j
abbrev pub base_costs : List ColumnDef → ℕ → ℕ → List ℕ → List Term
base_costs columns stage j [] = []
base_costs columns stage j (at ∷ stages) = pick (nat_eq at stage)
    (put j (get_or columns j no_column).cost (base_costs columns stage (suc j) stages)) (base_costs columns stage (suc j) stages)

-- row i with its form and its right-hand side
abbrev pub base_row : List RowDef → List (List Term) → ℕ → RowValues
base_row rows forms i = record { row = i; entries = get_or forms i []; rhs = (get_or rows i no_row).rhs }

-- the rows of a stage that have a form, the first of which has the number i
abbrev pub base_rows : List RowDef → List (List Term) → ℕ → ℕ → List ℕ → List RowValues
base_rows rows forms stage i [] = []
base_rows rows forms stage i (at ∷ stages) = pick (nat_eq at stage && nat_lt i (length forms))
    (base_row rows forms i ∷ base_rows rows forms stage (suc i) stages) (base_rows rows forms stage (suc i) stages)
