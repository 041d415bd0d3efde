-- The sums of all columns at once, each at its column, and when they are those of the walks by column.
use Rattle.std.specs.Prelude.{◌≡◌, ℕ, eqb, List, [], ◌∷◌, Result, Ok}
use Rattle.rationals.specs.Rational.{ℚ, zero_ℚ}
use Rattle.rationals.specs.Sparse.{Entry, coefficient, Ascending}
use Rattle.rationals.specs.Forms.{put}
use Rattle.rationals.specs.Passes.{Operation, add_product_walk, then_walk, IsNarrow}
use Rattle.rationals.specs.Choices.{pick}
use Rattle.scen_defs.specs.Lists.{Each}
use Rattle.scen_defs.specs.declared.program.NodeRow.{NodeRow}
use Rattle.cut_defs.specs.declared.datum.ColumnBounds.{ColumnBounds}
use Rattle.cut_defs.specs.declared.kinds.CutKind.{CutKind}
use Rattle.cut_defs.specs.Data.{Datum, is_own}
use Rattle.cut_defs.specs.Stored.{Source, StoredUses, cost_of, form_of}
use Rattle.cut_defs.specs.Stored.StoredUses.{No_stored, Use_stored}
use Rattle.cut_sums.specs.Walks.{column_walk}

-- in each column the walk comes from the number that stood there to the one that stands there
abbrev pub MovesColumns : (ℕ → ℚ → Result ℚ Operation) → List Entry → List Entry → Type 0
MovesColumns walk old new = (j : ℕ) → IsNarrow (coefficient old j)
    → (walk j (coefficient old j) ≡ Ok (coefficient new j)) × IsNarrow (coefficient new j)

-- s and a weight times an entry, where the entry stands in column j
abbrev pub weighted_from : ℚ → Entry → ℕ → ℚ → Result ℚ Operation
weighted_from weight e j s = pick (eqb e.column j) (add_product_walk s weight e.value) (Ok s)

-- the same for entries in order
abbrev pub all_weighted_from : ℚ → ℕ → ℚ → List Entry → Result ℚ Operation
all_weighted_from weight j s [] = Ok s
all_weighted_from weight j s (e ∷ es) = then_walk (weighted_from weight e j s) (λ t. all_weighted_from weight j t es)

-- columns that rise, each with a number, which is 0
pub record AreZeros (tally : List Entry) : Type 0 where
  pub rises : Ascending 0 tally
  pub zeros : Each (λ (e : Entry). e.value ≡ zero_ℚ) tally

-- in each column stands its cost
abbrev pub AreCosts : Datum → CutKind → List Entry → Type 0
AreCosts d kind tally = (j : ℕ) → (coefficient tally j ≡ cost_of d kind j) × IsNarrow (coefficient tally j)

-- columns that rise, and in each column the number to which its walk comes from its cost
pub record AreSums (d : Datum) (s : Source) (uses : StoredUses) (tally : List Entry) : Type 0 where
  pub rises : Ascending 0 tally
  pub ends : (j : ℕ) → column_walk d.rows s.multipliers uses j (cost_of d s.kind j) ≡ Ok (coefficient tally j)

-- the entries that aren't 0 and stand in none of the node's own columns
abbrev pub outside : List ColumnBounds → List Entry → List Entry
outside own [] = []
outside own (e ∷ es) = pick (is_own own e.column) (outside own es) (put e.column e.value (outside own es))

-- the columns of each row rise; of each used cut's form
abbrev pub RowsAscend : List NodeRow → Type 0
RowsAscend rows = Each (λ (r : NodeRow). Ascending 0 r.entries) rows

abbrev pub UsesAscend : StoredUses → Type 0
UsesAscend No_stored = Unit {0}
UsesAscend (Use_stored weight cut uses) = Ascending 0 (form_of cut) × UsesAscend uses
