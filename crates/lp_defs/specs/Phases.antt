-- The parts of a solve: artificial columns, the objective row that a phase begins with, and the pivots on artificial columns that are left.
use Rattle.std.specs.Prelude.{ℕ, zero, suc, true, false, ◌+◌, ◌&&◌, ◌||◌, Bool, not, ltb, List, [], ◌∷◌, ◌++◌}
use Rattle.std.specs.Prelude.{Option, Some, None, Ok, Err}
use Rattle.rationals.specs.Rational.{ℚ, one_ℚ, neg_ℚ}
use Rattle.rationals.specs.Passes.{Operation, then_walk, sub_walk}
use Rattle.rationals.specs.Sparse.{Entry}
use Rattle.lp_defs.specs.Tests.{is_zero, is_above_zero}
use Rattle.lp_defs.specs.Walks.{Walk}
use Rattle.lp_defs.specs.Lines.{value_at, cleared_form}
use Rattle.lp_defs.specs.Path.{Row, Tableau, row_at, pivoted}

-- a row for each form, with its right side; the basic columns are j, j + 1 and so on
abbrev pub unit_rows : ℕ → List (List Entry) → List ℚ → List Row
unit_rows j [] right = []
unit_rows j (f ∷ rows) [] = []
unit_rows j (f ∷ rows) (b ∷ right) = record { basic = j; line = record { entries = f; right = b } } ∷ unit_rows (suc j) rows right

-- the forms with their artificial columns: 1 in column j behind the first form, in j + 1 behind the second, and so on
abbrev pub with_units : ℕ → List (List Entry) → List (List Entry)
with_units j [] = []
with_units j (f ∷ rows) = (f ++ record { column = j; value = one_ℚ } ∷ []) ∷ with_units (suc j) rows

-- a cost of 1 in each of m columns from j on
abbrev pub unit_costs : ℕ → ℕ → List Entry
unit_costs j zero = []
unit_costs j (suc m) = record { column = j; value = one_ℚ } ∷ unit_costs (suc j) m

-- the objective row that a phase begins with, from the cost on: less, for each row in order, its basic column's cost times the row
abbrev pub priced : List Entry → List Row → List Entry → Walk (List Entry)
priced cost [] objective = Ok objective
priced cost (r ∷ rows) objective = then_walk (cleared_form (value_at cost r.basic) r.line.entries objective)
    (λ next. priced cost rows next)

-- ---- the end of phase one

-- an artificial column, which is one from n on, is basic with a right side above 0
abbrev pub has_artificial_above : ℕ → List Row → Bool
has_artificial_above n [] = false
has_artificial_above n (r ∷ rows) = (not (ltb r.basic n) && is_above_zero r.line.right) || has_artificial_above n rows

-- ---- the pivots on artificial columns that are left

-- the least column below n whose entry isn't 0
abbrev pub nonzero_below : ℕ → List Entry → Option ℕ
nonzero_below n [] = None
nonzero_below n (t ∷ f) = elim (not (is_zero t.value) && ltb t.column n) [ true ↦ Some t.column | false ↦ nonzero_below n f ]

-- the column that takes a row's artificial column's place
abbrev pub replacing : ℕ → Row → Option ℕ
replacing n r = elim (ltb r.basic n) [ true ↦ None | false ↦ nonzero_below n r.line.entries ]

pub data Driven : Type 0 where
  -- after so many pivots
  Driven_out : ℕ → Tableau → Driven
  Driven_long : Driven
  -- in this pivot
  Driven_stop : ℕ → Operation → Driven

abbrev pub driven_by : ℕ → Walk Tableau → (Tableau → Driven) → Driven
driven_by k (Ok next) go = go next
driven_by k (Err p) go = Driven_stop k p

abbrev pub driven_at : ℕ → ℕ → ℕ → Tableau → Option ℕ → (ℕ → ℕ → Tableau → Driven) → Driven
driven_at i left k t None go = go left k t
driven_at i zero k t (Some j) go = Driven_long
driven_at i (suc left) k t (Some j) go = driven_by (k + 1) (pivoted j i t) (λ next. go left (k + 1) next)

-- the rows from number i on, `rows` of them; `left` pivots are allowed, and k have been made
abbrev pub driven : ℕ → ℕ → ℕ → ℕ → ℕ → Tableau → Driven
driven n zero i left k t = Driven_out k t
driven n (suc rows) i left k t = driven_at i left k t (replacing n (row_at t.rows i)) (driven n rows (i + 1))

-- ---- duals

-- phase one: 1 less the reduced cost, of column j and the columns behind it, m of them
abbrev pub first_duals : ℕ → ℕ → List Entry → List ℚ → Walk (List ℚ)
first_duals j zero objective done = Ok done
first_duals j (suc m) objective done =
    then_walk (sub_walk one_ℚ (value_at objective j)) (λ y. first_duals (suc j) m objective (done ++ y ∷ []))

-- phase two: the negative reduced costs
abbrev pub unit_duals : ℕ → ℕ → List Entry → List ℚ
unit_duals j zero objective = []
unit_duals j (suc m) objective = neg_ℚ (value_at objective j) ∷ unit_duals (suc j) m objective
