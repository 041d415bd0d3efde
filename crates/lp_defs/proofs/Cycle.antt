-- In a cycle of pivots the cost of the point never changes, and so each quotient of its ratio tests is 0.
use Rattle.std.proofs.Common.{◌≡◌, ℕ, ◌⊎◌, inl, inr, Bool, true, false, List, [], ◌∷◌, Some, Ok, eqb, refl, sym, ap, ap₂, ◌∙◌, subst, eqb-true}
use Rattle.std.specs.List.{insert}
use Rattle.std.proofs.lemmas.Bool.{ne_eqb, eqb-false}
use Rattle.rationals.specs.Rational.{ℚ, zero_ℚ, one_ℚ, ◌+ℚ◌, ◌-ℚ◌, ◌*ℚ◌, neg_ℚ, inv_ℚ, ◌≤ℚ◌, ◌<ℚ◌, by_ring, by_eqs, by_linear, by_linear_eq, terms, le_of_same_ℚ, lt_le_ℚ, mul_mono_ℚ, not_le_of_lt_ℚ, zero_lt_one_ℚ, cancel_ℚ}
use Rattle.rationals.specs.Ring.Eqs.{done, by_eq}
use Rattle.rationals.specs.Ring.Given.{fact, equal, nothing}
use Rattle.rationals.specs.Sums.{dot}
use Rattle.rationals.specs.Sparse.{Entry, value_if, product}
use Rattle.lp_defs.specs.Path.{Candidate}
use Rattle.lp_defs.specs.Lines.{value_at}
use Rattle.lp_defs.specs.Path.{Row, Tableau, entering, pivoted, row_at}
use Rattle.lp_defs.specs.Linear.{Holds, AllRows, Solves, rights, Combines, IsTied}
use Rattle.lp_defs.specs.Ends.{IsChosen, unit}
use Rattle.lp_defs.specs.Basis.{IsUnits, IsBasic, point}
use Rattle.lp_defs.specs.Trace.{NotIn}
use Rattle.lp_defs.proofs.Rows.{Pivots, pivots, all_uninsert}
use Rattle.lp_defs.proofs.Choice.{all_weaker}
use Rattle.lp_defs.proofs.Best.{cost_is, values_are}
use Rattle.lp_defs.proofs.Basic.{point_solves, point_cost, zero_at_point}
use Rattle.lp_defs.proofs.Rays.{product_two, entering_falls}

-- a solution of the program solves each tableau of it
pub solves_on : (cost : List Entry) (rows : List Row) (t : Tableau) (x : ℕ → ℚ) → IsTied cost rows t → Solves rows x → Solves t.rows x
solves_on cost rows t x k s = all_weaker (λ line. (y : List ℚ) × Combines rows y line) (Holds x) t.rows
    (λ line m. m.1.entries x ∙ ap (dot m.0) (values_are rows x s) ∙ sym m.1.right) k.spans

-- ---- a point by its values at the basic columns
abbrev spread : List Row → (ℕ → ℚ) → ℕ → ℚ
spread [] x c = zero_ℚ
spread (r ∷ rows) x c = x r.basic *ℚ unit r.basic c +ℚ spread rows x c

not_there : (rows : List Row) (x : ℕ → ℚ) (c : ℕ) → NotIn c rows → spread rows x c ≡ zero_ℚ
not_there [] x c h = refl
not_there (r ∷ rows) x c h =
    let apart : eqb c r.basic ≡ false = ne_eqb c r.basic (λ e. h.0 (sym e)) in
    let z : spread rows x c ≡ zero_ℚ = not_there rows x c h.1 in
    rw (apart, z) (by_ring (x r.basic ∷ []) (search terms depth 40) tt)

-- basic columns are different
pub apart_from : (r : Row) (rows : List Row) → product r.line.entries (unit r.basic) ≡ one_ℚ → AllRows (λ s. product r.line.entries (unit s.basic) ≡ zero_ℚ) rows → NotIn r.basic rows
apart_from r [] o h = tt
apart_from r (s ∷ rows) o h =
    ((λ e. not_le_of_lt_ℚ zero_lt_one_ℚ (le_of_same_ℚ (sym o ∙ ap (λ (b : ℕ). product r.line.entries (unit b)) (sym e) ∙ h.0))), apart_from r rows o h.1)

spread_is : (rows : List Row) (x : ℕ → ℚ) → IsUnits rows → ((c : ℕ) → NotIn c rows → x c ≡ zero_ℚ) → (c : ℕ) → spread rows x c ≡ x c
spread_is rows x u f c = pick (there rows u)
  where
    there : (rows : List Row) → IsUnits rows → (spread rows x c ≡ x c) ⊎ NotIn c rows
    there [] u = inr tt
    there (r ∷ rows) u = go (eqb c r.basic) refl (there rows u.3)
      where
        go : (b : Bool) → eqb c r.basic ≡ b → (spread rows x c ≡ x c) ⊎ NotIn c rows → (x r.basic *ℚ value_if b one_ℚ +ℚ spread rows x c ≡ x c) ⊎ NotIn c (r ∷ rows)
        go true e ih =
            let k : c ≡ r.basic = eqb-true c r.basic e in
            let n : NotIn c rows = subst (λ (b : ℕ). NotIn b rows) (sym k) (apart_from r rows u.0 u.1) in
            inl (by_eqs (x r.basic ∷ spread rows x c ∷ x c ∷ []) (by_eq one_ℚ (not_there rows x c n) (by_eq one_ℚ (ap x (sym k)) done)) (search terms depth 40) tt)
        go false e (inl h) = inl (by_eqs (x r.basic ∷ spread rows x c ∷ x c ∷ []) (by_eq one_ℚ h done) (search terms depth 40) tt)
        go false e (inr h) = inr ((λ m. eqb-false c r.basic e (sym m)), h)

    pick : (spread rows x c ≡ x c) ⊎ NotIn c rows → spread rows x c ≡ x c
    pick (inl h) = h
    pick (inr h) = not_there rows x c h ∙ sym (f c h)

product_same : (f : List Entry) (x z : ℕ → ℚ) → ((c : ℕ) → x c ≡ z c) → product f x ≡ product f z
product_same [] x z h = refl
product_same (t ∷ f) x z h = ap₂ (λ (a b : ℚ). t.value *ℚ a +ℚ b) (h t.column) (product_same f x z h)

product_nowhere : (f : List Entry) → product f (λ c. zero_ℚ) ≡ zero_ℚ
product_nowhere [] = refl
product_nowhere (t ∷ f) = by_eqs (t.value ∷ product f (λ c. zero_ℚ) ∷ []) (by_eq one_ℚ (product_nowhere f) done) (search terms depth 40) tt

zero_on_spread : (f : List Entry) (rows : List Row) (x : ℕ → ℚ) → AllRows (λ s. product f (unit s.basic) ≡ zero_ℚ) rows → product f (spread rows x) ≡ zero_ℚ
zero_on_spread f [] x h = product_nowhere f
zero_on_spread f (r ∷ rows) x h = product_two f (x r.basic) (unit r.basic) (spread rows x)
    ∙ by_eqs (x r.basic ∷ product f (unit r.basic) ∷ product f (spread rows x) ∷ []) (by_eq (x r.basic) h.0 (by_eq one_ℚ (zero_on_spread f rows x h.1) done)) (search terms depth 40) tt

-- the point is 0 at columns that aren't basic
pub point_zero : (rows : List Row) (c : ℕ) → NotIn c rows → point rows c ≡ zero_ℚ
point_zero [] c h = refl
point_zero (r ∷ rows) c h =
    let apart : eqb c r.basic ≡ false = ne_eqb c r.basic (λ e. h.0 (sym e)) in
    let z : point rows c ≡ zero_ℚ = point_zero rows c h.1 in
    rw (apart, z) (by_ring (r.line.right ∷ []) (search terms depth 40) tt)

-- the points of two tableaus of a program with the same basic columns cost the same
pub same_basis : (cost : List Entry) (rows : List Row) (n : ℕ) (t u : Tableau) → IsTied cost rows t → IsTied cost rows u → IsBasic t → IsBasic u → ((c : ℕ) → NotIn c t.rows → NotIn c u.rows) → product cost (point t.rows) ≡ product cost (point u.rows)
same_basis cost rows n t u kt ku bt bu f =
    let x : ℕ → ℚ = point u.rows in
    let s : Solves rows x = ku.back x (point_solves u.rows bu.units) in
    let ct : product cost x ≡ product t.objective x +ℚ dot kt.prices.0 (rights rows) = cost_is cost rows t x kt s in
    let zt : product t.objective x ≡ zero_ℚ =
    product_same t.objective x (spread t.rows x) (λ c. sym (spread_is t.rows x bt.units (λ c h. point_zero u.rows c (f c h)) c)) ∙ zero_on_spread t.objective t.rows x bt.priced in
    by_eqs (product cost x ∷ product t.objective x ∷ dot kt.prices.0 (rights rows) ∷ product cost (point t.rows) ∷ [])
    (by_eq one_ℚ (point_cost cost rows t kt bt) (by_eq (neg_ℚ one_ℚ) ct (by_eq (neg_ℚ one_ℚ) zt done))) (search terms depth 40) tt

-- ---- the cost of the point never rises, and stays only where the quotient is 0
pub record Falls (cost : List Entry) (t u : Tableau) (c : Candidate) : Type 0 where
  pub by_step : product cost (point u.rows) ≤ℚ product cost (point t.rows)
  pub only : product cost (point t.rows) ≤ℚ product cost (point u.rows) → c.ratio ≡ zero_ℚ

-- the old objective row at the new point
priced_there : (j i : ℕ) (t u : Tableau) (p : Pivots j i t u) → IsBasic u → product t.objective (point u.rows) ≡ value_at t.objective j *ℚ p.pivot.right
priced_there j i t u p b =
    let x : ℕ → ℚ = point u.rows in
    let all : Solves (insert p.others i (record { basic = j; line = p.pivot })) x = subst (λ (l : List Row). Solves l x) p.rows (point_solves u.rows b.units) in
    let own : product p.pivot.entries x ≡ p.pivot.right = (all_uninsert (Holds x) p.others i (record { basic = j; line = p.pivot }) all).1 in
    let new : product u.objective x ≡ product t.objective x -ℚ value_at t.objective j *ℚ product p.pivot.entries x = p.objective x in
    let none : product u.objective x ≡ zero_ℚ = zero_at_point u.objective u.rows b.priced in
    by_eqs (product t.objective x ∷ product u.objective x ∷ value_at t.objective j ∷ product p.pivot.entries x ∷ p.pivot.right ∷ [])
    (by_eq (neg_ℚ one_ℚ) new (by_eq one_ℚ none (by_eq (value_at t.objective j) own done))) (search terms depth 40) tt

pub pivot_falls : (n j : ℕ) (cost : List Entry) (rows : List Row) (t u : Tableau) (c : Candidate) → IsTied cost rows t → IsTied cost rows u → IsBasic t → IsBasic u → entering n t.objective ≡ Some j → IsChosen j t.rows c → zero_ℚ ≤ℚ c.ratio → pivoted j c.index t ≡ Ok u → Falls cost t u c
pivot_falls n j cost rows t u c kt ku bt bu e ch r q =
    let p : Pivots j c.index t u = pivots j c.index t u q in
    let a : ℚ = value_at (row_at t.rows c.index).line.entries j in
    let q_is : p.pivot.right ≡ c.ratio = p.scaled.right ∙ by_ring (inv_ℚ a ∷ (row_at t.rows c.index).line.right ∷ []) (search terms depth 40) tt ∙ sym ch.ratio in
    let f : ℚ = value_at t.objective j in
    let x : ℕ → ℚ = point u.rows in
    let down : f <ℚ zero_ℚ = entering_falls n 0 j t.objective bt.objective_rises e in
    let there : product t.objective x ≡ f *ℚ c.ratio = priced_there j c.index t u p bu ∙ ap (λ (v : ℚ). f *ℚ v) q_is in
    let costs : product cost x ≡ product t.objective x +ℚ dot kt.prices.0 (rights rows) = cost_is cost rows t x kt (ku.back x (point_solves u.rows bu.units)) in
    let new : product cost x ≡ product cost (point t.rows) +ℚ f *ℚ c.ratio = by_eqs (product cost x ∷ product t.objective x ∷ dot kt.prices.0 (rights rows) ∷ product cost (point t.rows) ∷ f ∷ c.ratio ∷ [])
    (by_eq one_ℚ costs (by_eq one_ℚ there (by_eq (neg_ℚ one_ℚ) (point_cost cost rows t kt bt) done))) (search terms depth 40) tt in
    let g : c.ratio *ℚ f ≤ℚ c.ratio *ℚ zero_ℚ = mul_mono_ℚ r (lt_le_ℚ down) in
    record {
      by_step = falling (product cost (point t.rows)) (product cost x) f c.ratio new g;
      only = λ h. cancel_ℚ (λ z. not_le_of_lt_ℚ down (le_of_same_ℚ (sym z))) (both (product cost (point t.rows)) (product cost x) f c.ratio new g h);
    }
  where
    falling : (tc uc f q : ℚ) → uc ≡ tc +ℚ f *ℚ q → q *ℚ f ≤ℚ q *ℚ zero_ℚ → uc ≤ℚ tc
    falling tc uc f q e g = by_linear (tc ∷ uc ∷ f ∷ q ∷ []) (fact g (equal e nothing)) (search terms depth 40) tt

    both : (tc uc f q : ℚ) → uc ≡ tc +ℚ f *ℚ q → q *ℚ f ≤ℚ q *ℚ zero_ℚ → tc ≤ℚ uc → f *ℚ q ≡ f *ℚ zero_ℚ
    both tc uc f q e g h = by_linear_eq (tc ∷ uc ∷ f ∷ q ∷ []) (fact g (fact h (equal e nothing))) (search terms depth 40) tt
