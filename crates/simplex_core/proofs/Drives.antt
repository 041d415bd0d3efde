-- How the pivots on artificial columns go on.
use Rattle.std.proofs.Common.{◌≡◌, ℕ, zero, suc, ◌<◌, ◌+◌, ◌-◌, List, Option, Some, None, Result, Ok, Err, length, get_or, sym, ap, ◌∙◌, subst, arith}
use Rattle.std.specs.Prelude.{IfOk}
use Rattle.frac128.specs.declared.fault.ArithmeticFault.{ArithmeticFault}
use Rattle.frac128.specs.declared.fault.ArithmeticFault.TheVariants as fault
use Rattle.frac128.specs.declared.memory.Memory.{Memory}
use Rattle.frac128.specs.Faults.{FaultOf}
use Rattle.rationals.specs.Rational.{zero_ℚ}
use Rattle.rationals.specs.Passes.{Operation}
use Rattle.rationals.specs.Sparse.{Ascending}
use Rattle.lp_defs.specs.Lines.{value_at}
use Rattle.lp_defs.specs.Path.{Row, Tableau, pivoted, row_at}
use Rattle.lp_defs.specs.Phases.{replacing, Driven, Driven_long, Driven_stop, driven_at, driven_by, driven}
use Rattle.lp_defs.specs.Stages.{HasRisen}
use Rattle.lp_defs.proofs.Ready.{replaces, lines_at}
use Rattle.simplex_core.specs.declared.drive.Driven.{Driven as End}
use Rattle.simplex_core.specs.declared.drive.Driven.TheVariants as end
use Rattle.simplex_core.specs.Drove.{Drove, StopsDrive}
use Rattle.simplex_core.proofs.Pivots.{row_is}

-- the column that was found for a row
pub found : (n i : ℕ) (t : Tableau) (rows : List Row) (r : Row) (o : Option ℕ) → i < length rows → r ≡ get_or rows i r → rows ≡ t.rows → o ≡ replacing n r → replacing n (row_at t.rows i) ≡ o
found n i t rows r o h e k m = ap (λ (l : List Row). replacing n (row_at l i)) (sym k) ∙ ap (replacing n) (row_is rows i r h e) ∙ sym m

more_rows : (len i : ℕ) → i < len → len - i ≡ suc (len - (i + 1))
more_rows len i h = omega arith

-- where a row is left
pub rows_left : (n len i left k : ℕ) (t : Tableau) (whole : Driven) → i < len → driven n (len - i) i left k t ≡ whole → driven_at i left k t (replacing n (row_at t.rows i)) (driven n (len - (i + 1)) (i + 1)) ≡ whole
rows_left n len i left k t whole h e = subst (λ (l : ℕ). driven n l i left k t ≡ whole) (more_rows len i h) e

pub kept_here : (n len i left k : ℕ) (t : Tableau) (whole : Driven) → i < len → replacing n (row_at t.rows i) ≡ None → driven n (len - i) i left k t ≡ whole → driven n (len - (i + 1)) (i + 1) left k t ≡ whole
kept_here n len i left k t whole h e w = sym (ap (λ (o : Option ℕ). driven_at i left k t o (driven n (len - (i + 1)) (i + 1))) e) ∙ rows_left n len i left k t whole h w

pub long_here : (n len i p k j : ℕ) (t : Tableau) (whole : Driven) → i < len → k ≡ p → replacing n (row_at t.rows i) ≡ Some j → driven n (len - i) i (p - k) k t ≡ whole → whole ≡ Driven_long
long_here n len i p k j t whole h m e w =
    let z : p - k ≡ zero = omega arith in
    sym (rows_left n len i (p - k) k t whole h w) ∙ ap (λ (o : Option ℕ). driven_at i (p - k) k t o (driven n (len - (i + 1)) (i + 1))) e ∙ ap (λ (l : ℕ). driven_at i l k t (Some j) (driven n (len - (i + 1)) (i + 1))) z

-- where a pivot is made
pivot_here : (n len i p k j : ℕ) (t : Tableau) (whole : Driven) → i < len → k < p → replacing n (row_at t.rows i) ≡ Some j → driven n (len - i) i (p - k) k t ≡ whole
    → driven_by (k + 1) (pivoted j i t) (λ next. driven n (len - (i + 1)) (i + 1) (p - (k + 1)) (k + 1) next) ≡ whole
pivot_here n len i p k j t whole h m e w =
    let s : p - k ≡ suc (p - (k + 1)) = omega arith in
    sym (ap (λ (l : ℕ). driven_at i l k t (Some j) (driven n (len - (i + 1)) (i + 1))) s) ∙ sym (ap (λ (o : Option ℕ). driven_at i (p - k) k t o (driven n (len - (i + 1)) (i + 1))) e) ∙ rows_left n len i (p - k) k t whole h w

pub next_here : (n len i p k j : ℕ) (t u : Tableau) (whole : Driven) → i < len → k < p → replacing n (row_at t.rows i) ≡ Some j → pivoted j i t ≡ Ok u → driven n (len - i) i (p - k) k t ≡ whole → driven n (len - (i + 1)) (i + 1) (p - (k + 1)) (k + 1) u ≡ whole
next_here n len i p k j t u whole h m e q w =
    sym (ap (λ (x : Result Tableau Operation). driven_by (k + 1) x (λ next. driven n (len - (i + 1)) (i + 1) (p - (k + 1)) (k + 1) next)) q) ∙ pivot_here n len i p k j t whole h m e w

pub stop_here : (n len i p k j : ℕ) (t new : Tableau) (whole : Driven) (f : ArithmeticFault) (r : Result End Memory) → i < len → k < p → replacing n (row_at t.rows i) ≡ Some j → FaultOf (pivoted j i t) f → StopsDrive f (k + 1) r
    → driven n (len - i) i (p - k) k t ≡ whole → IfOk r (λ e. Drove whole e new)
stop_here n len i p k j t new whole f r h m e q s w = go r s
  where
    at : (o : Operation) → f ≡ fault.Passed o → whole ≡ Driven_stop (k + 1) o
    at o x =
        sym (pivot_here n len i p k j t whole h m e w)
        ∙ ap (λ (y : Result Tableau Operation). driven_by (k + 1) y (λ next. driven n (len - (i + 1)) (i + 1) (p - (k + 1)) (k + 1) next)) (subst (FaultOf (pivoted j i t)) x q)

    go : (r : Result End Memory) → StopsDrive f (k + 1) r → IfOk r (λ e. Drove whole e new)
    go (Ok (end.Passed l o)) s = at o s.0 ∙ ap (λ (x : ℕ). Driven_stop x o) (sym s.1)
    go (Ok (end.Out l)) s = absurd s
    go (Ok end.PivotsEnded) s = absurd s
    go (Err x) s = tt

pub nonzero_here : (n i j : ℕ) (t : Tableau) → i < length t.rows → HasRisen t → replacing n (row_at t.rows i) ≡ Some j → value_at (row_at t.rows i).line.entries j ≡ zero_ℚ → ⊥
nonzero_here n i j t h r e = (replaces n j (row_at t.rows i) (lines_at (λ line. Ascending 0 line.entries) t.rows i h r.rows) e).nonzero
