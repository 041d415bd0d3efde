-- How a pivot goes on.
use Rattle.std.proofs.Common.{◌≡◌, ℕ, zero, suc, ◌<◌, List, [], ◌∷◌, Result, Ok, Err, length, get_or, sym, ap, ap₂, ◌∙◌, subst, arith}
use Rattle.std.specs.Result.{IsErrAnd}
use Rattle.std.specs.List.{remove, insert}
use Rattle.rationals.specs.Rational.{ℚ, zero_ℚ}
use Rattle.lp_defs.specs.Walks.{Walk}
use Rattle.rationals.specs.Passes.{then_walk}
use Rattle.rationals.specs.Sparse.{Entry}
use Rattle.rationals.specs.Passes.{Operation}
use Rattle.lp_defs.specs.Lines.{Line, value_at, divided, cleared_form}
use Rattle.lp_defs.specs.Path.{Row, Tableau, row_at, pivoted, pivoted_by, cleared_rows}
use Rattle.simplex_core.specs.Gives.{Gives}
use Rattle.frac128.specs.declared.fault.ArithmeticFault.{ArithmeticFault}
use Rattle.frac128.specs.Faults.{FaultOf}
use Rattle.frac128.specs.declared.fault.ArithmeticFault.TheVariants as fault

ends : {A B : Type 0} (v : Walk A) (w : Walk B) (f : ArithmeticFault) → ((p : Operation) → w ≡ Err p → v ≡ Err p) → FaultOf w f → FaultOf v f
ends v w (fault.Passed p) go h = go p h
ends v w fault.Memory go h = tt

-- the error of a part is that of the whole
pub carry : {A B C : Type 0} (v : Walk A) (w : Walk B) (r : Result C ArithmeticFault) (f : ArithmeticFault) (new : A) → ((p : Operation) → w ≡ Err p → v ≡ Err p) → FaultOf w f → IsErrAnd r (λ e. e ≡ f) → Gives v r new
carry v w (Ok x) f new go h k = absurd k
carry v w (Err e) f new go h k = subst (FaultOf v) (sym k) (ends v w f go h)

pub row_is : (rows : List Row) (i : ℕ) (r : Row) → i < length rows → r ≡ get_or rows i r → row_at rows i ≡ r
row_is [] i r h e = absurd (omega arith)
row_is (x ∷ xs) zero r h e = sym e
row_is (x ∷ xs) (suc i) r h e = row_is xs i r (omega arith) e

tableau : List Row → List Entry → Tableau
tableau rows objective = record { rows = rows; objective = objective }

pub begins : (t : Tableau) (j i : ℕ) (rows : List Row) (objective : List Entry) (r : Row) (line : Line) (others : List Row) → record { rows = rows; objective = objective } ≡ t → i < length t.rows → r ≡ get_or rows i r → line ≡ r.line → others ≡ remove rows i
    → pivoted j i t ≡ pivoted_by j i line others objective
begins t j i rows objective r line others e h k m n =
    let h' : i < length rows = subst (λ (u : Tableau). i < length u.rows) (sym e) h in
    let x : (row_at rows i).line ≡ line = ap (λ (u : Row). u.line) (row_is rows i r h' k) ∙ sym m in
    ap (pivoted j i) (sym e) ∙ ap (λ (l : Line). pivoted_by j i l (remove rows i) objective) x ∙ ap (λ (u : List Row). pivoted_by j i line u objective) (sym n)

-- the number by which the row is divided
pub pivot_entry : (t : Tableau) (j i : ℕ) (rows : List Row) (objective : List Entry) (r : Row) (line : Line) (v : ℚ) → record { rows = rows; objective = objective } ≡ t → i < length t.rows → r ≡ get_or rows i r → line ≡ r.line → v ≡ value_at line.entries j
    → (value_at (row_at t.rows i).line.entries j ≡ zero_ℚ → ⊥) → v ≡ zero_ℚ → ⊥
pivot_entry t j i rows objective r line v e h k m n ne z =
    let h' : i < length rows = subst (λ (u : Tableau). i < length u.rows) (sym e) h in
    let x : line ≡ (row_at rows i).line = m ∙ ap (λ (u : Row). u.line) (sym (row_is rows i r h' k)) in
    let y : (row_at rows i).line ≡ (row_at t.rows i).line = ap (λ (u : Tableau). (row_at u.rows i).line) e in
    ne (sym (n ∙ ap (λ (l : Line). value_at l.entries j) (x ∙ y)) ∙ z)

-- the parts of a pivot
abbrev then_done : ℕ → ℕ → Line → List Row → List Entry → Walk Tableau
then_done j i pivot rows objective = Ok (record { rows = insert rows i (record { basic = j; line = pivot }); objective = objective })

abbrev then_objective : ℕ → ℕ → Line → List Entry → List Row → Walk Tableau
then_objective j i pivot objective rows = then_walk (cleared_form (value_at objective j) pivot.entries objective) (then_done j i pivot rows)

abbrev then_rows : ℕ → ℕ → List Row → List Entry → Line → Walk Tableau
then_rows j i others objective pivot = then_walk (cleared_rows j pivot others []) (then_objective j i pivot objective)

-- the objective row, cleared by the numbers that the code read
pub clears : (j : ℕ) (f : ℚ) (entries : List Entry) (pivot : Line) (objective : List Entry) → f ≡ value_at objective j → entries ≡ pivot.entries
    → cleared_form (value_at objective j) pivot.entries objective ≡ cleared_form f entries objective
clears j f entries pivot objective e h = sym (ap₂ (λ (x : ℚ) (l : List Entry). cleared_form x l objective) e h)

pub at_divide : (j i : ℕ) (a : ℚ) (line : Line) (others : List Row) (objective : List Entry) (p : Operation) → a ≡ value_at line.entries j → divided a line ≡ Err p → pivoted_by j i line others objective ≡ Err p
at_divide j i a line others objective p e h = ap (λ (w : Walk Line). then_walk w (then_rows j i others objective)) (ap (λ (q : ℚ). divided q line) (sym e) ∙ h)

pub at_rows : (j i : ℕ) (a : ℚ) (line pivot : Line) (others : List Row) (objective : List Entry) (p : Operation) → a ≡ value_at line.entries j → divided a line ≡ Ok pivot → cleared_rows j pivot others [] ≡ Err p → pivoted_by j i line others objective ≡ Err p
at_rows j i a line pivot others objective p e h m = ap (λ (w : Walk Line). then_walk w (then_rows j i others objective)) (ap (λ (q : ℚ). divided q line) (sym e) ∙ h)
    ∙ ap (λ (w : Walk (List Row)). then_walk w (then_objective j i pivot objective)) m

pub at_objective : (j i : ℕ) (a : ℚ) (line pivot : Line) (others rows : List Row) (objective : List Entry) (p : Operation) → a ≡ value_at line.entries j → divided a line ≡ Ok pivot → cleared_rows j pivot others [] ≡ Ok rows → cleared_form (value_at objective j) pivot.entries objective ≡ Err p → pivoted_by j i line others objective ≡ Err p
at_objective j i a line pivot others rows objective p e h m n = ap (λ (w : Walk Line). then_walk w (then_rows j i others objective)) (ap (λ (q : ℚ). divided q line) (sym e) ∙ h)
    ∙ ap (λ (w : Walk (List Row)). then_walk w (then_objective j i pivot objective)) m ∙ ap (λ (w : Walk (List Entry)). then_walk w (then_done j i pivot rows)) n

pub at_end : (j i : ℕ) (a : ℚ) (line pivot : Line) (others rows all : List Row) (objective new : List Entry) → a ≡ value_at line.entries j → divided a line ≡ Ok pivot → cleared_rows j pivot others [] ≡ Ok rows → cleared_form (value_at objective j) pivot.entries objective ≡ Ok new
    → all ≡ insert rows i (record { basic = j; line = pivot }) → pivoted_by j i line others objective ≡ Ok (record { rows = all; objective = new })
at_end j i a line pivot others rows all objective new e h m n o = ap (λ (w : Walk Line). then_walk w (then_rows j i others objective)) (ap (λ (q : ℚ). divided q line) (sym e) ∙ h)
    ∙ ap (λ (w : Walk (List Row)). then_walk w (then_objective j i pivot objective)) m ∙ ap (λ (w : Walk (List Entry)). then_walk w (then_done j i pivot rows)) n
    ∙ ap (λ (l : List Row). Ok (record { rows = l; objective = new })) (sym o)
