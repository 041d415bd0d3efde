-- The columns of a line rise.
use Rattle.std.proofs.Common.{◌≡◌, ℕ, zero, suc, ◌<◌, ◌≤◌, List, [], ◌∷◌, ◌++◌, length, get_or, slice_set, sym, ap, subst, arith, ◌∙◌}
use Rattle.rationals.specs.Rational.{ℚ, one_ℚ}
use Rattle.rationals.specs.Sparse.{Entry, Ascending, coefficient, coefficient_is}
use Rattle.lp_defs.specs.Lines.{value_at}
use Rattle.lp_defs.specs.Program.{IsFormBelow, AllFormsBelow}
use Rattle.lp_defs.proofs.Basic.{value_is}
use Rattle.lp_defs.proofs.Starts.{rows_rise}

-- where columns rise, the entry of a column is all that stands there
pub entry_is : (f : List Entry) (j : ℕ) → Ascending 0 f → coefficient f j ≡ value_at f j
entry_is f j a = coefficient_is f j ∙ value_is 0 j f a

-- a form with its artificial column
pub with_unit_rises : (n j : ℕ) (f : List Entry) (b : ℚ) → n ≤ j → IsFormBelow n f → Ascending 0 (f ++ record { column = j; value = one_ℚ } ∷ [])
with_unit_rises n j f b l h = (rows_rise n j (f ∷ []) (b ∷ []) l (h, tt)).0

pub form_at : (n i : ℕ) (forms : List (List Entry)) (f : List Entry) → AllFormsBelow n forms → i < length forms → f ≡ get_or forms i f → IsFormBelow n f
form_at n i [] f h l e = absurd (omega arith)
form_at n zero (g ∷ forms) f h l e = subst (IsFormBelow n) (sym e) h.0
form_at n (suc i) (g ∷ forms) f h l e = form_at n i forms f h.1 (omega arith) e

-- another value in a column
pub set_rises : (n i : ℕ) (xs : List Entry) (x y : Entry) → Ascending n xs → i < length xs → x ≡ get_or xs i x → y.column ≡ x.column → Ascending n (slice_set xs i y)
set_rises n i [] x y a l e c = absurd (omega arith)
set_rises n zero (z ∷ xs) x y a l e c =
    let k : y.column ≡ z.column = c ∙ ap (λ (t : Entry). t.column) e in
    subst (λ (m : ℕ). (n ≤ m) × Ascending (suc m) xs) (sym k) a
set_rises n (suc i) (z ∷ xs) x y a l e c = (a.0, set_rises (suc z.column) i xs x y a.1 (omega arith) e c)
