-- How a path goes on.
use Rattle.std.proofs.Common.{◌≡◌, ℕ, zero, suc, ◌<◌, ◌+◌, ◌-◌, true, false, List, Option, Some, None, Ok, Err, refl, sym, ap, ◌∙◌, subst, arith}
use Rattle.rationals.specs.Passes.{Operation}
use Rattle.lp_defs.specs.Walks.{Walk}
use Rattle.lp_defs.specs.Ends.{IsChosen}
use Rattle.lp_defs.proofs.Choice.{leaving_is}
use Rattle.lp_defs.specs.Path.{Row, Tableau, Candidate, Ending, Done, Open, Stopped, TooLong, entering, leaving, has_above_zero, pivoted, path}

pub best_is : (n l k : ℕ) (t : Tableau) → None ≡ entering n t.objective → path n l k t ≡ Done k t
best_is n zero k t e = rw (← e) refl
best_is n (suc l) k t e = rw (← e) refl

pub open_is : (n l k j : ℕ) (t : Tableau) → Some j ≡ entering n t.objective → Ok None ≡ leaving j t.rows 0 None → path n (suc l) k t ≡ Open j t
open_is n l k j t e f = rw (← e, ← f) refl

pub stop_leave : (n l k j : ℕ) (t : Tableau) (p : Operation) → Some j ≡ entering n t.objective → Err p ≡ leaving j t.rows 0 None → path n (suc l) k t ≡ Stopped (k + 1) p
stop_leave n l k j t p e f = rw (← e, ← f) refl

pub stop_pivot : (n l k j : ℕ) (t : Tableau) (c : Candidate) (p : Operation) → Some j ≡ entering n t.objective → Ok (Some c) ≡ leaving j t.rows 0 None → pivoted j c.index t ≡ Err p → path n (suc l) k t ≡ Stopped (k + 1) p
stop_pivot n l k j t c p e f g = rw (← e, ← f, g) refl

pub goes_on : (n l k j : ℕ) (t next : Tableau) (c : Candidate) → Some j ≡ entering n t.objective → Ok (Some c) ≡ leaving j t.rows 0 None → pivoted j c.index t ≡ Ok next → path n (suc l) k t ≡ path n l (k + 1) next
goes_on n l k j t next c e f g = rw (← e, ← f, g) refl

-- where no pivot is left
pub long_is : (n k j : ℕ) (t : Tableau) → Some j ≡ entering n t.objective → has_above_zero j t.rows ≡ true → path n 0 k t ≡ TooLong
long_is n k j t e f = rw (← e, f) refl

pub open_at_end : (n k j : ℕ) (t : Tableau) → Some j ≡ entering n t.objective → has_above_zero j t.rows ≡ false → path n 0 k t ≡ Open j t
open_at_end n k j t e f = rw (← e, f) refl

-- at the start of a loop's turn
pub more_left : (p m : ℕ) → m < p → p - m ≡ suc (p - (m + 1))
more_left p m h = omega arith

-- the row that the ratio test chose
pub chosen_is : (j : ℕ) (w : Walk (Option Candidate)) (o : Option Candidate) (c : Candidate) (rows : List Row) (t u : Tableau) → w ≡ leaving j rows 0 None → w ≡ Ok o → o ≡ Some c → rows ≡ t.rows → t ≡ u → IsChosen j u.rows c
chosen_is j w o c rows t u e f g h k =
    leaving_is j u.rows (Some c) (ap (λ (v : Tableau). leaving j v.rows 0 None) (sym k) ∙ ap (λ (l : List Row). leaving j l 0 None) (sym h) ∙ sym e ∙ f ∙ ap (λ (p : Option Candidate). Ok p) g)

-- the rest of the path, where a pivot is left
pub rest : (n p m : ℕ) (t : Tableau) (whole : Ending) → m < p → path n (p - m) m t ≡ whole → path n (suc (p - (m + 1))) m t ≡ whole
rest n p m t whole h e = subst (λ (l : ℕ). path n l m t ≡ whole) (more_left p m h) e
