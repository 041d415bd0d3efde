-- The path: from tableau to tableau by Bland's rule, with every operation checked.
use Rattle.std.specs.Prelude.{ℕ, zero, suc, Bool, true, false, ◌+◌, ◌||◌, ◌&&◌, List, [], ◌∷◌, ◌++◌, Option, Some}
use Rattle.std.specs.Prelude.{None, Ok, Err, ltb}
use Rattle.std.specs.List.{remove, insert}
use Rattle.rationals.specs.Rational.{ℚ, zero_ℚ}
use Rattle.rationals.specs.Order.{compare}
use Rattle.rationals.specs.Forms.{by_order}
use Rattle.lp_defs.specs.Tests.{is_above_zero, is_below_zero}
use Rattle.lp_defs.specs.Walks.{Walk}
use Rattle.rationals.specs.Sparse.{Entry}
use Rattle.rationals.specs.Passes.{Operation, then_walk, div_walk}
use Rattle.lp_defs.specs.Lines.{Line, value_at, cleared, cleared_form, divided}

pub record Row : Type 0 where
  pub basic : ℕ
  pub line : Line

-- the objective row has the reduced costs and no right side: what the point costs is computed from the point
pub record Tableau : Type 0 where
  pub rows : List Row
  pub objective : List Entry

-- ---- Bland's rule
-- the least column below n with a reduced cost below 0
abbrev pub entering : ℕ → List Entry → Option ℕ
entering n [] = None
entering n (x ∷ xs) = elim (is_below_zero x.value && ltb x.column n) [ true ↦ Some x.column | false ↦ entering n xs ]

-- a row that the ratio test would choose: its number, its quotient and its basic column
pub record Candidate : Type 0 where
  pub index : ℕ
  pub ratio : ℚ
  pub basic : ℕ

-- the lesser quotient; among equals, the lesser basic column
abbrev pub is_better : Candidate → Candidate → Bool
is_better c b = by_order (compare c.ratio b.ratio) true (ltb c.basic b.basic) false

abbrev pub choose : Option Candidate → Candidate → Option Candidate
choose None c = Some c
choose (Some b) c = elim (is_better c b) [ true ↦ Some c | false ↦ Some b ]

-- the ratio test at column j; i is the number of the first row
abbrev pub leaving : ℕ → List Row → ℕ → Option Candidate → Walk (Option Candidate)
leaving j [] i best = Ok best
leaving j (r ∷ rows) i best = elim (is_above_zero (value_at r.line.entries j)) [
  | true ↦ then_walk (div_walk r.line.right (value_at r.line.entries j))
      (λ q. leaving j rows (i + 1) (choose best (record { index = i; ratio = q; basic = r.basic })))
  | false ↦ leaving j rows (i + 1) best
]

abbrev pub has_above_zero : ℕ → List Row → Bool
has_above_zero j [] = false
has_above_zero j (r ∷ rows) = is_above_zero (value_at r.line.entries j) || has_above_zero j rows

-- ---- a pivot
abbrev pub cleared_row : ℕ → Line → Row → Walk Row
cleared_row j pivot r = then_walk (cleared j pivot r.line) (λ line. Ok (record { basic = r.basic; line = line }))

abbrev pub cleared_rows : ℕ → Line → List Row → List Row → Walk (List Row)
cleared_rows j pivot [] done = Ok done
cleared_rows j pivot (r ∷ rows) done = then_walk (cleared_row j pivot r) (λ new. cleared_rows j pivot rows (done ++ new ∷ []))

-- the tableau where the row with this line, number i, has been taken out
abbrev pub pivoted_by : ℕ → ℕ → Line → List Row → List Entry → Walk Tableau
pivoted_by j i line others objective =
    then_walk (divided (value_at line.entries j) line) (λ pivot.
    then_walk (cleared_rows j pivot others []) (λ rows.
    then_walk (cleared_form (value_at objective j) pivot.entries objective) (λ objective.
    Ok (record { rows = insert rows i (record { basic = j; line = pivot }); objective = objective }))))

-- row i, or an empty one past the end
abbrev pub row_at : List Row → ℕ → Row
row_at [] i = record { basic = 0; line = record { entries = []; right = zero_ℚ } }
row_at (r ∷ rows) zero = r
row_at (r ∷ rows) (suc i) = row_at rows i

abbrev pub pivoted : ℕ → ℕ → Tableau → Walk Tableau
pivoted j i t = pivoted_by j i (row_at t.rows i).line (remove t.rows i) t.objective

-- ---- the path from a tableau on
pub data Ending : Type 0 where
  -- after so many pivots
  Done : ℕ → Tableau → Ending
  -- no row bounds this column
  Open : ℕ → Tableau → Ending
  TooLong : Ending
  -- in this pivot
  Stopped : ℕ → Operation → Ending

-- the rest of a path, where there is a choice, and where no operation passed
abbrev pub with_choice : {A : Type 0} → Option A → Ending → (A → Ending) → Ending
with_choice None stop go = stop
with_choice (Some a) stop go = go a

abbrev pub with_value : {A : Type 0} → Walk A → (Operation → Ending) → (A → Ending) → Ending
with_value (Ok a) stop go = go a
with_value (Err e) stop go = stop e

abbrev pub at_limit : ℕ → Tableau → Bool → Ending
at_limit j t true = TooLong
at_limit j t false = Open j t

-- columns below n may enter; `left` pivots are allowed, and k have been made
abbrev pub path : ℕ → ℕ → ℕ → Tableau → Ending
path n zero k t = with_choice (entering n t.objective) (Done k t) (λ j. at_limit j t (has_above_zero j t.rows))
path n (suc left) k t =
    with_choice (entering n t.objective) (Done k t) (λ j.
    with_value (leaving j t.rows 0 None) (Stopped (k + 1)) (λ found.
    with_choice found (Open j t) (λ c.
    with_value (pivoted j c.index t) (Stopped (k + 1)) (λ next.
    path n left (k + 1) next))))
