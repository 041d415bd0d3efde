-- The sums of a cut, step by step in their order: each product is added to, or taken from, what is there as one step. A walk
-- ends at the first that passes.
use Rattle.std.specs.Prelude.{ℕ, Bool, true, false, ltb, List, [], ◌∷◌, ◌++◌, Option, Some, None, Result, Ok}
use Rattle.rationals.specs.Rational.{ℚ, zero_ℚ}
use Rattle.rationals.specs.Sparse.{Entry, coefficient}
use Rattle.rationals.specs.Forms.{put, product_from}
use Rattle.rationals.specs.Passes.{Operation, add_product_walk, then_walk}
use Rattle.rationals.specs.Choices.{pick}
use Rattle.scen_defs.specs.declared.program.NodeRow.{NodeRow}
use Rattle.scen_defs.specs.Ends.{used_end}
use Rattle.scen_defs.specs.Walks.{less_from}
use Rattle.cut_defs.specs.declared.datum.ColumnBounds.{ColumnBounds}
use Rattle.cut_defs.specs.Data.{Datum, is_own}
use Rattle.cut_defs.specs.Stored.{Source, Stored, StoredUses, cost_of, constant_of, form_of}
use Rattle.cut_defs.specs.Stored.Stored.{Stored_of}
use Rattle.cut_defs.specs.Stored.StoredUses.{No_stored, Use_stored}
use Rattle.cut_sums.specs.declared.sums.Priced.{Priced}
use Rattle.cut_sums.specs.declared.sums.Worth.{Worth}

-- ---- a column: from a number, less entry times multiplier by row, plus weight times the used cut's form by used list
abbrev pub uses_from : ℕ → ℚ → StoredUses → Result ℚ Operation
uses_from j s No_stored = Ok s
uses_from j s (Use_stored w cut uses) = then_walk (add_product_walk s w (coefficient (form_of cut) j)) (λ t. uses_from j t uses)

abbrev pub column_walk : List NodeRow → List Entry → StoredUses → ℕ → ℚ → Result ℚ Operation
column_walk rows y uses j s = then_walk (less_from j (coefficient y) s rows) (λ t. uses_from j t uses)

-- ---- the reduced cost of each own column, from its cost, with the column's bounds
abbrev pub priced_from : Datum → Source → StoredUses → List Priced → List ColumnBounds → Result (List Priced) Operation
priced_from d s uses done [] = Ok done
priced_from d s uses done (b ∷ bs) =
    then_walk (column_walk d.rows s.multipliers uses b.column (cost_of d s.kind b.column))
    (λ q. priced_from d s uses (done ++ record { lower = b.lower; upper = b.upper; value = q } ∷ []) bs)

abbrev pub prices_walk : Datum → Source → StoredUses → Result (List Priced) Operation
prices_walk d s uses = priced_from d s uses [] d.bounds

-- ---- the form: the columns that stand in a row or in a used form and are none of the node's own, each from 0
-- two lists that rise, each number once
abbrev pub union_at : ℕ → (List ℕ → List ℕ) → List ℕ → List ℕ
union_at a rest [] = a ∷ rest []
union_at a rest (b ∷ ys) = elim (ltb a b) [
  | true ↦ a ∷ rest (b ∷ ys)
  | false ↦ elim (ltb b a) [ true ↦ b ∷ union_at a rest ys | false ↦ a ∷ rest ys ]
]

abbrev pub union : List ℕ → List ℕ → List ℕ
union [] ys = ys
union (x ∷ xs) ys = union_at x (union xs) ys

abbrev pub columns_in : List Entry → List ℕ
columns_in [] = []
columns_in (e ∷ f) = e.column ∷ columns_in f

abbrev pub rows_columns : List ℕ → List NodeRow → List ℕ
rows_columns done [] = done
rows_columns done (r ∷ rs) = rows_columns (union done (columns_in r.entries)) rs

abbrev pub uses_columns : List ℕ → StoredUses → List ℕ
uses_columns done No_stored = done
uses_columns done (Use_stored w cut uses) = uses_columns (union done (columns_in (form_of cut))) uses

abbrev pub all_columns : List NodeRow → StoredUses → List ℕ
all_columns rows uses = uses_columns (rows_columns [] rows) uses

-- a column of the form; nothing for one of the node's own
abbrev pub earlier_walk : Datum → Source → StoredUses → ℕ → Result ℚ Operation
earlier_walk d s uses j = pick (is_own d.bounds j) (Ok zero_ℚ) (column_walk d.rows s.multipliers uses j zero_ℚ)

abbrev pub form_from : Datum → Source → StoredUses → List Entry → List ℕ → Result (List Entry) Operation
form_from d s uses done [] = Ok done
form_from d s uses done (j ∷ js) = then_walk (earlier_walk d s uses j) (λ q. form_from d s uses (done ++ put j q []) js)

-- ---- the constant: the rows' terms, the columns' terms, the used cuts' terms; an end that isn't finite leaves its term out
abbrev pub worth_step : Worth → ℚ → Option ℚ → Result Worth Operation
worth_step w y None = Ok (record { sum = w.sum; is_good = false })
worth_step w y (Some e) = then_walk (add_product_walk w.sum y e) (λ t. Ok (record { sum = t; is_good = w.is_good }))

abbrev pub rows_worth : List Entry → Worth → List NodeRow → Result Worth Operation
rows_worth y w [] = Ok w
rows_worth y w (r ∷ rs) =
    then_walk (worth_step w (coefficient y r.row) (used_end r.low r.high (coefficient y r.row))) (λ t. rows_worth y t rs)

abbrev pub columns_worth : Worth → List Priced → Result Worth Operation
columns_worth w [] = Ok w
columns_worth w (p ∷ ps) = then_walk (worth_step w p.value (used_end p.lower p.upper p.value)) (λ t. columns_worth t ps)

abbrev pub uses_worth : Worth → StoredUses → Result Worth Operation
uses_worth w No_stored = Ok w
uses_worth w (Use_stored weight cut uses) = then_walk (worth_step w weight (Some (constant_of cut))) (λ t. uses_worth t uses)

abbrev pub no_worth : Worth
no_worth = record { sum = zero_ℚ; is_good = true }

abbrev pub constant_walk : Datum → Source → StoredUses → List Priced → Result Worth Operation
constant_walk d s uses priced =
    then_walk (rows_worth s.multipliers no_worth d.rows) (λ a. then_walk (columns_worth a priced) (λ b. uses_worth b uses))

-- ---- the whole: the reduced costs, the form, the constant. The cut, or nothing where a used end isn't finite
abbrev pub cut_if : Bool → Stored → Option Stored
cut_if true cut = Some cut
cut_if false cut = None

abbrev pub made : Datum → Source → StoredUses → Result (Option Stored) Operation
made d s uses =
    then_walk (prices_walk d s uses)
    (λ priced. then_walk (form_from d s uses [] (all_columns d.rows uses))
    (λ form. then_walk (constant_walk d s uses priced)
    (λ w. Ok (cut_if w.is_good (Stored_of s uses w.sum form)))))

-- ---- the value at a trial: the constant, then the form times the trial by column
abbrev pub value_walk : Stored → List Entry → Result ℚ Operation
value_walk cut trial = product_from (coefficient trial) (constant_of cut) (form_of cut)
