-- The values of a node, and how they change where an entry is set.
use Rattle.std.specs.Prelude.{◌≡◌, ℕ, suc, ◌<◌, ◌&&◌, List, [], ◌∷◌, map, get_or, length, nat_eq, nat_lt}
use Rattle.std.specs.Prelude.{if◌then◌else◌}
use Rattle.rationals.specs.Rational.{ℚ, zero_ℚ}
use Rattle.rationals.specs.Sparse.{Entry as Term}
use Rattle.rationals.specs.Forms.{put}
use Rattle.smps_words.specs.declared.entry.Entry.{Entry}
use Rattle.smps_words.specs.declared.entry.Entry.TheVariants.{Cost, Matrix, Rhs}
use Rattle.core_defs.specs.declared.program.Core.{Core}
use Rattle.time_defs.specs.Means.{Stages}
use Rattle.stoch_defs.specs.Random.{Sets}
use Rattle.build_defs.specs.Nodes.{value_in, costs_at, entries_at, rows_at}
pub use Rattle.tree_build.specs.Rows.{RowsFrom, RowsBelow, row_past, IsRowAt}
use Rattle.tree_build.specs.declared.parts.RowValues.{RowValues}
use Rattle.tree_build.specs.declared.parts.Values.{Values as ValuesOf}

-- the form with this value in column j, none where it is 0
abbrev pub put_at : ℕ → ℚ → List Term → List Term
put_at j v [] = put j v []
put_at j v (e ∷ f) = if nat_lt e.column j then e ∷ put_at j v f else (if nat_eq e.column j then put j v f else put j v (e ∷ f))

-- a term of column j stands in place i
abbrev pub StandsAt : List Term → ℕ → ℕ → Type 0
StandsAt xs i j = (i < length xs) × ((get_or xs i (record { column = suc j; value = zero_ℚ })).column ≡ j)

-- ---- what a node has

pub record Values : Type 0 where
  pub cost : List Term
  pub rows : List RowValues

abbrev pub values_content : ValuesOf → Values
values_content d = record { cost = d.cost; rows = d.rows.items }

abbrev pub all_content : List ValuesOf → List Values
all_content [] = []
all_content (d ∷ all) = values_content d ∷ all_content all

-- a row where these entries are set
abbrev pub row_values : Core → Sets → ℕ → RowValues
row_values core sets i = record { row = i; entries = entries_at core sets i; rhs = value_in core sets (Rhs i) }

-- a node of this stage where these entries are set
abbrev pub values_of : Core → Stages → Sets → ℕ → Values
values_of core p sets stage = record { cost = costs_at core sets stage p.columns; rows = map (row_values core sets) (rows_at stage p.rows) }

-- ---- an entry is set

-- the rows, of which row i is changed
abbrev pub at_row : ℕ → (RowValues → RowValues) → List RowValues → List RowValues
at_row i change rows = map (λ (r : RowValues). if nat_eq r.row i then change r else r) rows

abbrev pub with_entry : ℕ → ℚ → RowValues → RowValues
with_entry j v r = record { row = r.row; entries = put_at j v r.entries; rhs = r.rhs }

abbrev pub with_rhs : ℚ → RowValues → RowValues
with_rhs v r = record { row = r.row; entries = r.entries; rhs = v }

-- the values of a node of this stage, where the entry is set; one that isn't of the stage changes nothing
abbrev pub with_set : Core → Stages → ℕ → Values → Entry → ℚ → Values
with_set core p stage d (Cost j) v = if nat_lt j (length p.columns) && nat_eq (get_or p.columns j 0) stage
    then record { cost = put_at j v d.cost; rows = d.rows } else d
with_set core p stage d (Matrix i j) v = if nat_lt j (length core.columns.items)
    then record { cost = d.cost; rows = at_row i (with_entry j v) d.rows } else d
with_set core p stage d (Rhs i) v = record { cost = d.cost; rows = at_row i (with_rhs v) d.rows }

-- one after another
abbrev pub with_sets : Core → Stages → ℕ → Values → Sets → Values
with_sets core p stage d [] = d
with_sets core p stage d (pair ∷ sets) = with_sets core p stage (with_set core p stage d pair.0 pair.1) sets
