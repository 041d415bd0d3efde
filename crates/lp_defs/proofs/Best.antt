-- What holds at the end of a path, by the program's rows.
use Rattle.std.proofs.Common.{◌≡◌, ℕ, ◌≤◌, ◌&&◌, Bool, true, false, List, [], ◌∷◌, Option, Some, None, ltb, refl, ap, ap₂, ◌∙◌, arith}
use Rattle.std.proofs.lemmas.Bool.{ltb-false}
use Rattle.rationals.specs.Rational.{ℚ, zero_ℚ, one_ℚ, ◌+ℚ◌, ◌-ℚ◌, ◌*ℚ◌, neg_ℚ, ◌≤ℚ◌, by_ring, by_eqs, by_linear, by_facts, terms, le_refl_ℚ, mul_nonneg_ℚ, ne_of_gt_ℚ}
use Rattle.rationals.specs.Ring.Eqs.{done, by_eq}
use Rattle.rationals.specs.Ring.Facts.{end, by_le}
use Rattle.rationals.specs.Ring.Given.{fact, equal, nothing}
use Rattle.rationals.specs.Sums.{dot}
use Rattle.lp_defs.specs.Tests.{is_below_zero, is_below_zero_false}
use Rattle.rationals.specs.Sparse.{Entry, product}
use Rattle.lp_defs.specs.Lines.{Line}
use Rattle.lp_defs.specs.Path.{Row, Tableau, entering}
use Rattle.lp_defs.specs.Linear.{AllLines, Solves, values, rights, Combines, IsTied}
use Rattle.lp_defs.specs.Ends.{IsPoint}
use Rattle.lp_defs.proofs.Rows.{pivots, tied_pivot}
use Rattle.lp_defs.proofs.Choice.{all_weaker, Keeps}

abbrev Spans : List Row → Line → Type 0
Spans rows line = (y : List ℚ) × Combines rows y line

one_more : (r : Row) (rows : List Row) (line : Line) → Spans rows line → Spans (r ∷ rows) line
one_more r rows line k = (
  zero_ℚ ∷ k.0,
  record {
    entries = λ x. k.1.entries x ∙ by_ring (dot k.0 (values rows x) ∷ product r.line.entries x ∷ []) (search terms depth 40) tt;
    right = k.1.right ∙ by_ring (dot k.0 (rights rows) ∷ r.line.right ∷ []) (search terms depth 40) tt;
  },
)

pub start_spans : (rows : List Row) → AllLines (Spans rows) rows
start_spans [] = tt
start_spans (r ∷ rows) = (
  (one_ℚ ∷ [], record { entries = λ x. by_ring (product r.line.entries x ∷ []) (search terms depth 40) tt; right = by_ring (r.line.right ∷ []) (search terms depth 40) tt }),
  all_weaker (Spans rows) (Spans (r ∷ rows)) rows (one_more r rows) (start_spans rows),
)

pub tied_keeps : (n : ℕ) (cost : List Entry) (rows : List Row) → Keeps (IsTied cost rows) n
tied_keeps n cost rows t u j c h e m q = tied_pivot cost rows j c.index t u (pivots j c.index t u q) m.within (ne_of_gt_ℚ m.above) h

-- no reduced cost below 0: the objective row is nowhere below 0
pub none_enters : (n : ℕ) (f : List Entry) (x : ℕ → ℚ) → IsPoint n x → entering n f ≡ None → zero_ℚ ≤ℚ product f x
none_enters n [] x h e = le_refl_ℚ zero_ℚ
none_enters n (t ∷ f) x h e = go (is_below_zero t.value) refl (ltb t.column n) refl e (none_enters n f x h)
  where
    both : (a b : ℚ) → zero_ℚ ≤ℚ a → zero_ℚ ≤ℚ b → zero_ℚ ≤ℚ a +ℚ b
    both a b p q = by_facts (a ∷ b ∷ []) (by_le 1 p (by_le 1 q end)) (search terms depth 40) tt

    go : (b : Bool) → is_below_zero t.value ≡ b → (c : Bool) → ltb t.column n ≡ c → ◌≡◌ {A = Option ℕ} (elim (b && c) [ true ↦ Some t.column | false ↦ entering n f ]) None
        → (entering n f ≡ None → zero_ℚ ≤ℚ product f x) → zero_ℚ ≤ℚ t.value *ℚ x t.column +ℚ product f x
    go true p true q e ih = absurd (cc)
    go true p false q e ih =
        let z : x t.column ≡ zero_ℚ = (h t.column).1 (λ l. let k : n ≤ t.column = ltb-false t.column n q in omega arith) in
        let i : zero_ℚ ≤ℚ product f x = ih e in
        by_linear (t.value ∷ x t.column ∷ product f x ∷ []) (fact i (equal (ap (λ (v : ℚ). t.value *ℚ v) z) nothing)) (search terms depth 40) tt
    go false p c q e ih = both (t.value *ℚ x t.column) (product f x) (mul_nonneg_ℚ t.value (x t.column) (is_below_zero_false t.value p) (h t.column).0) (ih e)

pub values_are : (rows : List Row) (x : ℕ → ℚ) → Solves rows x → values rows x ≡ rights rows
values_are [] x h = refl
values_are (r ∷ rows) x h = ap₂ (λ (v : ℚ) (l : List ℚ). v ∷ l) h.0 (values_are rows x h.1)

-- the cost of a solution is what the objective row says of it, and a number that is the same for all solutions
pub cost_is : (cost : List Entry) (rows : List Row) (t : Tableau) (x : ℕ → ℚ) (h : IsTied cost rows t) → Solves rows x → product cost x ≡ product t.objective x +ℚ dot h.prices.0 (rights rows)
cost_is cost rows t x h s =
    let y : List ℚ = h.prices.0 in
    let l : product t.objective x ≡ product cost x -ℚ dot y (values rows x) = h.prices.1 x in
    let m : dot y (values rows x) ≡ dot y (rights rows) = ap (dot y) (values_are rows x s) in
    by_eqs (product t.objective x ∷ product cost x ∷ dot y (values rows x) ∷ dot y (rights rows) ∷ []) (by_eq (neg_ℚ one_ℚ) l (by_eq one_ℚ m done)) (search terms depth 40) tt
