-- The heart of Bland's rule: in a cycle of pivots, let m be the greatest column that enters or leaves. No two tableaus of the cycle are such
-- that m leaves in one and enters in the other.
use Rattle.std.proofs.Common.{◌≡◌, ℕ, suc, ◌<◌, ◌≤◌, ◌&&◌, ◌⊎◌, inl, inr, Bool, true, false, cond, List, [], ◌∷◌, Option, Some, eqb, ltb, refl, sym, ap, ◌∙◌, subst, arith, eqb-true}
use Rattle.std.proofs.lemmas.Bool.{ltb-false, ne_eqb, eqb-false}
use Rattle.rationals.specs.Rational.{ℚ, zero_ℚ, one_ℚ, ◌+ℚ◌, ◌*ℚ◌, ◌/ℚ◌, neg_ℚ, inv_ℚ, ◌≤ℚ◌, ◌<ℚ◌, by_eqs, by_linear, terms, le_of_same_ℚ, lt_le_ℚ, le_total_ℚ, mul_mono_ℚ, not_le_of_lt_ℚ}
use Rattle.rationals.specs.Ring.Eqs.{done, by_eq}
use Rattle.rationals.specs.Ring.Given.{fact, equal, nothing}
use Rattle.rationals.specs.Sums.{dot}
use Rattle.lp_defs.specs.Tests.{is_below_zero, is_below_zero_false}
use Rattle.rationals.specs.Sparse.{Entry, product, Ascending}
use Rattle.lp_defs.specs.Path.{Candidate}
use Rattle.lp_defs.specs.Lines.{value_at}
use Rattle.lp_defs.specs.Path.{Row, Tableau, entering}
use Rattle.lp_defs.specs.Linear.{AllRows, Solves, rights, IsTied}
use Rattle.lp_defs.specs.Ends.{IsChosen, unit}
use Rattle.lp_defs.specs.Basis.{IsBasic, point, ray}
use Rattle.lp_defs.proofs.Best.{cost_is}
use Rattle.lp_defs.proofs.Basic.{value_is, point_solves}
use Rattle.lp_defs.proofs.Rays.{product_two, zero_on_ray, ray_flat, further, entering_falls}

-- along the ray of column s in t, the objective row of any other tableau of the same program changes as that of t does
pub exchange : (cost : List Entry) (rows : List Row) (n s : ℕ) (t u : Tableau) → IsTied cost rows t → IsTied cost rows u → IsBasic t → product u.objective (ray s t.rows) ≡ value_at t.objective s
exchange cost rows n s t u kt ku b =
    let x : ℕ → ℚ = point t.rows in
    let d : ℕ → ℚ = ray s t.rows in
    let sx : Solves t.rows x = point_solves t.rows b.units in
    let s1 : Solves rows x = kt.back x sx in
    let s2 : Solves rows (λ c. one_ℚ *ℚ d c +ℚ x c) = kt.back (λ c. one_ℚ *ℚ d c +ℚ x c) (further t.rows x d sx (ray_flat s t.rows b.rows_rise b.units)) in
    let t1 : product cost x ≡ product t.objective x +ℚ dot kt.prices.0 (rights rows) = cost_is cost rows t x kt s1 in
    let t2 : product cost (λ c. one_ℚ *ℚ d c +ℚ x c) ≡ product t.objective (λ c. one_ℚ *ℚ d c +ℚ x c) +ℚ dot kt.prices.0 (rights rows) = cost_is cost rows t (λ c. one_ℚ *ℚ d c +ℚ x c) kt s2 in
    let u1 : product cost x ≡ product u.objective x +ℚ dot ku.prices.0 (rights rows) = cost_is cost rows u x ku s1 in
    let u2 : product cost (λ c. one_ℚ *ℚ d c +ℚ x c) ≡ product u.objective (λ c. one_ℚ *ℚ d c +ℚ x c) +ℚ dot ku.prices.0 (rights rows) = cost_is cost rows u (λ c. one_ℚ *ℚ d c +ℚ x c) ku s2 in
    let t3 : product t.objective (λ c. one_ℚ *ℚ d c +ℚ x c) ≡ one_ℚ *ℚ product t.objective d +ℚ product t.objective x = product_two t.objective one_ℚ d x in
    let u3 : product u.objective (λ c. one_ℚ *ℚ d c +ℚ x c) ≡ one_ℚ *ℚ product u.objective d +ℚ product u.objective x = product_two u.objective one_ℚ d x in
    let same : product u.objective d ≡ product t.objective d = together (product cost x) (product cost (λ c. one_ℚ *ℚ d c +ℚ x c)) (product t.objective x) (product t.objective (λ c. one_ℚ *ℚ d c +ℚ x c)) (product t.objective d) (dot kt.prices.0 (rights rows))
    (product u.objective x) (product u.objective (λ c. one_ℚ *ℚ d c +ℚ x c)) (product u.objective d) (dot ku.prices.0 (rights rows)) t1 t2 u1 u2 t3 u3 in
    same ∙ zero_on_ray t.objective s t.rows b.priced ∙ value_is 0 s t.objective b.objective_rises
  where
    together : (cx cy tx ty td tr ux uy ud ur : ℚ) → cx ≡ tx +ℚ tr → cy ≡ ty +ℚ tr → cx ≡ ux +ℚ ur → cy ≡ uy +ℚ ur → ty ≡ one_ℚ *ℚ td +ℚ tx → uy ≡ one_ℚ *ℚ ud +ℚ ux → ud ≡ td
    together cx cy tx ty td tr ux uy ud ur a b c d e f = by_eqs (cx ∷ cy ∷ tx ∷ ty ∷ td ∷ tr ∷ ux ∷ uy ∷ ud ∷ ur ∷ [])
        (by_eq (neg_ℚ one_ℚ) a (by_eq one_ℚ b (by_eq one_ℚ c (by_eq (neg_ℚ one_ℚ) d (by_eq one_ℚ e (by_eq (neg_ℚ one_ℚ) f done)))))) (search terms depth 40) tt

-- the signs at the rows of t
abbrev Against : ℕ → List Entry → Row → Type 0
Against s f r = value_at r.line.entries s *ℚ product f (unit r.basic) ≤ℚ zero_ℚ

ray_above : (s : ℕ) (f : List Entry) (rows : List Row) → zero_ℚ ≤ℚ product f (unit s) → AllRows (Against s f) rows → zero_ℚ ≤ℚ product f (ray s rows)
ray_above s f [] h k = h
ray_above s f (r ∷ rows) h k =
    let e : product f (ray s (r ∷ rows)) ≡ neg_ℚ (value_at r.line.entries s) *ℚ product f (unit r.basic) +ℚ product f (ray s rows) = product_two f (neg_ℚ (value_at r.line.entries s)) (unit r.basic) (ray s rows) in
    let ih : zero_ℚ ≤ℚ product f (ray s rows) = ray_above s f rows h k.1 in
    let m : value_at r.line.entries s *ℚ product f (unit r.basic) ≤ℚ zero_ℚ = k.0 in
    by_linear (product f (ray s (r ∷ rows)) ∷ value_at r.line.entries s ∷ product f (unit r.basic) ∷ product f (ray s rows) ∷ []) (fact ih (fact m (equal e nothing))) (search terms depth 40) tt

-- below the entering column no reduced cost is below 0
past : (m k : ℕ) (f : List Entry) → Ascending m f → k < m → value_at f k ≡ zero_ℚ
past m k [] r h = refl
past m k (t ∷ f) r h =
    let l : m ≤ t.column = r.0 in
    let apart : eqb t.column k ≡ false = ne_eqb t.column k (λ e. absurd (omega arith)) in
    rw apart (past (suc t.column) k f r.1 (omega arith))

pub entering_first : (n m k from : ℕ) (f : List Entry) → Ascending from f → entering n f ≡ Some m → k < m → m < n → zero_ℚ ≤ℚ value_at f k
entering_first n m k from [] r e h l = absurd (cc)
entering_first n m k from (t ∷ f) r e h l = go (is_below_zero t.value) refl (ltb t.column n) refl e (λ e. entering_first n m k (suc t.column) f r.1 e h l)
  where
    other : (t.column ≡ k → zero_ℚ ≤ℚ t.value) → zero_ℚ ≤ℚ value_at f k → zero_ℚ ≤ℚ value_at (t ∷ f) k
    other g ih = pick (eqb t.column k) refl
      where
        pick : (b : Bool) → eqb t.column k ≡ b → zero_ℚ ≤ℚ cond b t.value (value_at f k)
        pick true e = g (eqb-true t.column k e)
        pick false e = ih

    go : (b : Bool) → is_below_zero t.value ≡ b → (c : Bool) → ltb t.column n ≡ c → ◌≡◌ {A = Option ℕ} (elim (b && c) [ true ↦ Some t.column | false ↦ entering n f ]) (Some m) → (entering n f ≡ Some m → zero_ℚ ≤ℚ value_at f k) → zero_ℚ ≤ℚ value_at (t ∷ f) k
    go true p true q e ih =
        let x : t.column ≡ m = cc in
        other (λ y. absurd (omega arith)) (le_of_same_ℚ (sym (past (suc t.column) k f r.1 (omega arith))))
    go true p false q e ih = let x : n ≤ t.column = ltb-false t.column n q in other (λ y. absurd (omega arith)) (ih e)
    go false p c q e ih = other (λ y. is_below_zero_false t.value p) (ih e)

-- what a row of t is to u: its basic column has the reduced cost 0 there, or it is a column of the cycle, and so its right side is 0
abbrev pub Fickle : ℕ → List Entry → Row → Type 0
Fickle m f r = (product f (unit r.basic) ≡ zero_ℚ) ⊎ ((r.basic ≤ m) × (r.line.right ≡ zero_ℚ))

against : (s m : ℕ) (f : List Entry) (r : Row) (q : ℚ) → Fickle m f r → q ≡ zero_ℚ → (zero_ℚ <ℚ value_at r.line.entries s → r.line.right /ℚ value_at r.line.entries s ≤ℚ q → m ≤ r.basic)
    → (r.basic ≡ m → zero_ℚ <ℚ value_at r.line.entries s) → ((k : ℕ) → k < m → zero_ℚ ≤ℚ product f (unit k)) → product f (unit m) ≤ℚ zero_ℚ → Against s f r
against s m f r q (inl z) e first own ok down = by_linear (value_at r.line.entries s ∷ product f (unit r.basic) ∷ []) (equal (ap (λ (v : ℚ). value_at r.line.entries s *ℚ v) z) nothing) (search terms depth 40) tt
against s m f r q (inr z) e first own ok down = go (le_total_ℚ (value_at r.line.entries s) zero_ℚ) (eqb r.basic m) refl
  where
    minus_plus : (a b : ℚ) → a ≤ℚ zero_ℚ → zero_ℚ ≤ℚ b → a *ℚ b ≤ℚ zero_ℚ
    minus_plus a b h k = let g : b *ℚ a ≤ℚ b *ℚ zero_ℚ = mul_mono_ℚ k h in by_linear (a ∷ b ∷ []) (fact g nothing) (search terms depth 40) tt

    plus_minus : (a b : ℚ) → zero_ℚ ≤ℚ a → b ≤ℚ zero_ℚ → a *ℚ b ≤ℚ zero_ℚ
    plus_minus a b h k = let g : a *ℚ b ≤ℚ a *ℚ zero_ℚ = mul_mono_ℚ h k in by_linear (a ∷ b ∷ []) (fact g nothing) (search terms depth 40) tt

    none : (a : ℚ) → r.line.right /ℚ a ≤ℚ q
    none a = by_linear (r.line.right ∷ inv_ℚ a ∷ q ∷ []) (equal (ap (λ (v : ℚ). v *ℚ inv_ℚ a) z.1) (equal e nothing)) (search terms depth 40) tt

    go : (value_at r.line.entries s ≤ℚ zero_ℚ) ⊎ (zero_ℚ <ℚ value_at r.line.entries s) → (b : Bool) → eqb r.basic m ≡ b → Against s f r
    go (inr h) b w =
        let le : m ≤ r.basic = first h (none (value_at r.line.entries s)) in
        let same : m ≡ r.basic = (let k : r.basic ≤ m = z.0 in omega arith) in
        plus_minus (value_at r.line.entries s) (product f (unit r.basic)) (lt_le_ℚ h) (subst (λ (k : ℕ). product f (unit k) ≤ℚ zero_ℚ) same down)
    go (inl h) true w = absurd (not_le_of_lt_ℚ (own (eqb-true r.basic m w)) h)
    go (inl h) false w = minus_plus (value_at r.line.entries s) (product f (unit r.basic)) h (ok r.basic (let k : r.basic ≤ m = z.0 in let ne : ¬ (r.basic ≡ m) = eqb-false r.basic m w in omega arith))

all_against : (s m : ℕ) (f : List Entry) (rows : List Row) (q : ℚ) → AllRows (Fickle m f) rows → q ≡ zero_ℚ → AllRows (λ r. zero_ℚ <ℚ value_at r.line.entries s → r.line.right /ℚ value_at r.line.entries s ≤ℚ q → m ≤ r.basic) rows
    → AllRows (λ r. r.basic ≡ m → zero_ℚ <ℚ value_at r.line.entries s) rows → ((k : ℕ) → k < m → zero_ℚ ≤ℚ product f (unit k)) → product f (unit m) ≤ℚ zero_ℚ → AllRows (Against s f) rows
all_against s m f [] q z e first own ok down = tt
all_against s m f (r ∷ rows) q z e first own ok down = (against s m f r q z.0 e first.0 own.0 ok down, all_against s m f rows q z.1 e first.1 own.1 ok down)

-- the two tableaus can't both be there
pub no_such_pair : (cost : List Entry) (rows : List Row) (n s m : ℕ) (t u : Tableau) (c : Candidate) → IsTied cost rows t → IsTied cost rows u → IsBasic t → IsBasic u
    → entering n t.objective ≡ Some s → IsChosen s t.rows c → c.basic ≡ m → c.ratio ≡ zero_ℚ → entering n u.objective ≡ Some m → s < m → m < n
    → AllRows (Fickle m u.objective) t.rows → AllRows (λ r. r.basic ≡ m → zero_ℚ <ℚ value_at r.line.entries s) t.rows → ⊥
no_such_pair cost rows n s m t u c kt ku bt bu es ch cm q em sm mn fickle own =
    let f : List Entry = u.objective in
    let ok : (k : ℕ) → k < m → zero_ℚ ≤ℚ product f (unit k) = λ k h. subst (λ (v : ℚ). zero_ℚ ≤ℚ v) (sym (value_is 0 k f bu.objective_rises)) (entering_first n m k 0 f bu.objective_rises em h mn) in
    let down : product f (unit m) ≤ℚ zero_ℚ = lt_le_ℚ (subst (λ (v : ℚ). v <ℚ zero_ℚ) (sym (value_is 0 m f bu.objective_rises)) (entering_falls n 0 m f bu.objective_rises em)) in
    let first : AllRows (λ r. zero_ℚ <ℚ value_at r.line.entries s → r.line.right /ℚ value_at r.line.entries s ≤ℚ c.ratio → m ≤ r.basic) t.rows =
    subst (λ (b : ℕ). AllRows (λ r. zero_ℚ <ℚ value_at r.line.entries s → r.line.right /ℚ value_at r.line.entries s ≤ℚ c.ratio → b ≤ r.basic) t.rows) cm ch.first in
    let above : zero_ℚ ≤ℚ product f (ray s t.rows) = ray_above s f t.rows (ok s sm) (all_against s m f t.rows c.ratio fickle q first own ok down) in
    not_le_of_lt_ℚ (entering_falls n 0 s t.objective bt.objective_rises es) (subst (λ (v : ℚ). zero_ℚ ≤ℚ v) (exchange cost rows n s t u kt ku bt) above)
