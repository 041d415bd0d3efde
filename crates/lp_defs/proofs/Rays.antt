-- The ray where no row bounds the entering column, and the duals that are read off the objective row.
use Rattle.std.proofs.Common.{◌≡◌, ℕ, suc, ◌<◌, ◌≤◌, ◌&&◌, Bool, true, false, List, [], ◌∷◌, Option, Some, eqb, ltb, refl, sym, ◌∙◌, subst, arith, eqb-true, eq-eqb}
use Rattle.std.proofs.lemmas.Bool.{ne_eqb}
use Rattle.rationals.specs.Rational.{ℚ, zero_ℚ, one_ℚ, ◌+ℚ◌, ◌*ℚ◌, neg_ℚ, ◌≤ℚ◌, ◌<ℚ◌, by_ring, by_eqs, by_linear, by_facts, terms, le_refl_ℚ, one_nonneg_ℚ, mul_nonneg_ℚ}
use Rattle.rationals.specs.Ring.Eqs.{done, by_eq}
use Rattle.rationals.specs.Ring.Facts.{end, by_le}
use Rattle.rationals.specs.Ring.Given.{fact, nothing}
use Rattle.rationals.specs.Sums.{dot}
use Rattle.lp_defs.specs.Tests.{is_below_zero, is_below_zero_true}
use Rattle.rationals.specs.Sparse.{Entry, value_if, product, Ascending}
use Rattle.lp_defs.specs.Lines.{Line, value_at}
use Rattle.lp_defs.specs.Path.{Row, Tableau, entering}
use Rattle.lp_defs.specs.Linear.{AllLines, AllRows, Solves, values, rights}
use Rattle.lp_defs.specs.Stages.{Three}
use Rattle.lp_defs.specs.Ends.{NoneAbove, unit, IsPoint}
use Rattle.lp_defs.specs.Basis.{IsUnits, point, ray, IsRayOf}
use Rattle.lp_defs.proofs.Best.{cost_is}
use Rattle.lp_defs.proofs.Basic.{value_is, point_solves, entering_below}

-- ---- the entering column's reduced cost
entering_from : (n m j : ℕ) (f : List Entry) → Ascending m f → entering n f ≡ Some j → m ≤ j
entering_from n m j [] r e = absurd (cc)
entering_from n m j (t ∷ f) r e = go (is_below_zero t.value && ltb t.column n) e (entering_from n (suc t.column) j f r.1)
  where
    go : (b : Bool) → ◌≡◌ {A = Option ℕ} (elim b [ true ↦ Some t.column | false ↦ entering n f ]) (Some j) → (entering n f ≡ Some j → suc t.column ≤ j) → m ≤ j
    go true e ih = let k : t.column ≡ j = cc in let l : m ≤ t.column = r.0 in omega arith
    go false e ih = let k : suc t.column ≤ j = ih e in let l : m ≤ t.column = r.0 in omega arith

pub entering_falls : (n m j : ℕ) (f : List Entry) → Ascending m f → entering n f ≡ Some j → value_at f j <ℚ zero_ℚ
entering_falls n m j [] r e = absurd (cc)
entering_falls n m j (t ∷ f) r e = go (is_below_zero t.value) refl (ltb t.column n) e (entering_falls n (suc t.column) j f r.1)
  where
    later : entering n f ≡ Some j → (entering n f ≡ Some j → value_at f j <ℚ zero_ℚ) → value_at (t ∷ f) j <ℚ zero_ℚ
    later e ih =
        let k : suc t.column ≤ j = entering_from n (suc t.column) j f r.1 e in
        let apart : eqb t.column j ≡ false = ne_eqb t.column j (λ m. absurd (omega arith)) in
        rw apart (ih e)

    go : (b : Bool) → is_below_zero t.value ≡ b → (c : Bool) → ◌≡◌ {A = Option ℕ} (elim (b && c) [ true ↦ Some t.column | false ↦ entering n f ]) (Some j) → (entering n f ≡ Some j → value_at f j <ℚ zero_ℚ) → value_at (t ∷ f) j <ℚ zero_ℚ
    go true p true e ih =
        let k : t.column ≡ j = cc in
        rw (eq-eqb t.column j k) (is_below_zero_true t.value p)
    go true p false e ih = later e ih
    go false p c e ih = later e ih

-- ---- forms at the ray
pub product_two : (f : List Entry) (a : ℚ) (u v : ℕ → ℚ) → product f (λ c. a *ℚ u c +ℚ v c) ≡ a *ℚ product f u +ℚ product f v
product_two [] a u v = by_ring (a ∷ []) (search terms depth 40) tt
product_two (t ∷ f) a u v = by_eqs (t.value ∷ a ∷ u t.column ∷ v t.column ∷ product f u ∷ product f v ∷ product f (λ c. a *ℚ u c +ℚ v c) ∷ []) (by_eq one_ℚ (product_two f a u v) done) (search terms depth 40) tt

pub zero_on_ray : (f : List Entry) (j : ℕ) (rows : List Row) → AllRows (λ s. product f (unit s.basic) ≡ zero_ℚ) rows → product f (ray j rows) ≡ product f (unit j)
zero_on_ray f j [] h = refl
zero_on_ray f j (r ∷ rows) h = product_two f (neg_ℚ (value_at r.line.entries j)) (unit r.basic) (ray j rows)
    ∙ by_eqs (value_at r.line.entries j ∷ product f (unit r.basic) ∷ product f (ray j rows) ∷ product f (unit j) ∷ []) (by_eq (neg_ℚ (value_at r.line.entries j)) h.0 (by_eq one_ℚ (zero_on_ray f j rows h.1) done)) (search terms depth 40) tt

abbrev Flat : (ℕ → ℚ) → Line → Type 0
Flat d line = product line.entries d ≡ zero_ℚ

more_flat : (j : ℕ) (r : Row) (rest rows : List Row) → AllRows (λ s. product s.line.entries (unit r.basic) ≡ zero_ℚ) rest → AllLines (Flat (ray j rows)) rest → AllLines (Flat (ray j (r ∷ rows))) rest
more_flat j r [] rows h k = tt
more_flat j r (s ∷ rest) rows h k = (
  product_two s.line.entries (neg_ℚ (value_at r.line.entries j)) (unit r.basic) (ray j rows)
      ∙ by_eqs (value_at r.line.entries j ∷ product s.line.entries (unit r.basic) ∷ product s.line.entries (ray j rows) ∷ []) (by_eq (neg_ℚ (value_at r.line.entries j)) h.0 (by_eq one_ℚ k.0 done)) (search terms depth 40) tt,
  more_flat j r rest rows h.1 k.1,
)

pub ray_flat : (j : ℕ) (rows : List Row) → AllLines (λ line. Ascending 0 line.entries) rows → IsUnits rows → AllLines (Flat (ray j rows)) rows
ray_flat j [] r h = tt
ray_flat j (s ∷ rows) r h = (
  product_two s.line.entries (neg_ℚ (value_at s.line.entries j)) (unit s.basic) (ray j rows)
      ∙ by_eqs (value_at s.line.entries j ∷ product s.line.entries (unit s.basic) ∷ product s.line.entries (ray j rows) ∷ product s.line.entries (unit j) ∷ [])
      (by_eq (neg_ℚ (value_at s.line.entries j)) h.0 (by_eq one_ℚ (zero_on_ray s.line.entries j rows h.1) (by_eq one_ℚ (value_is 0 j s.line.entries r.0) done))) (search terms depth 40) tt,
  more_flat j s rows rows h.2 (ray_flat j rows r.1 h.3),
)

-- a solution and a flat direction are a solution again
pub further : (rows : List Row) (x d : ℕ → ℚ) → Solves rows x → AllLines (Flat d) rows → Solves rows (λ c. one_ℚ *ℚ d c +ℚ x c)
further [] x d s h = tt
further (r ∷ rows) x d s h =
    (product_two r.line.entries one_ℚ d x ∙ by_eqs (product r.line.entries d ∷ product r.line.entries x ∷ r.line.right ∷ []) (by_eq one_ℚ h.0 (by_eq one_ℚ s.0 done)) (search terms depth 40) tt, further rows x d s.1 h.1)

flat_again : (rows : List Row) (x d : ℕ → ℚ) → Solves rows x → Solves rows (λ c. one_ℚ *ℚ d c +ℚ x c) → AllLines (Flat d) rows
flat_again [] x d s h = tt
flat_again (r ∷ rows) x d s h =
    let k : product r.line.entries (λ c. one_ℚ *ℚ d c +ℚ x c) ≡ one_ℚ *ℚ product r.line.entries d +ℚ product r.line.entries x = product_two r.line.entries one_ℚ d x in
    (by_eqs (product r.line.entries (λ c. one_ℚ *ℚ d c +ℚ x c) ∷ product r.line.entries d ∷ product r.line.entries x ∷ r.line.right ∷ []) (by_eq (neg_ℚ one_ℚ) k (by_eq one_ℚ h.0 (by_eq (neg_ℚ one_ℚ) s.0 done))) (search terms depth 40) tt, flat_again rows x d s.1 h.1)

pub unit_range : (n j c : ℕ) → j < n → (zero_ℚ ≤ℚ unit j c) × ((c < n → ⊥) → unit j c ≡ zero_ℚ)
unit_range n j c h = go (eqb c j) refl
  where
    go : (b : Bool) → eqb c j ≡ b → (zero_ℚ ≤ℚ value_if b one_ℚ) × ((c < n → ⊥) → value_if b one_ℚ ≡ zero_ℚ)
    go true e = (one_nonneg_ℚ, λ k. let m : c ≡ j = eqb-true c j e in absurd (k (omega arith)))
    go false e = (le_refl_ℚ zero_ℚ, λ k. refl)

ray_range : (n j : ℕ) (rows : List Row) → j < n → AllRows (λ r. r.basic < n) rows → NoneAbove j rows → IsPoint n (ray j rows)
ray_range n j [] l b h c = unit_range n j c l
ray_range n j (r ∷ rows) l b h c =
    let ih = ray_range n j rows l b.1 h.1 c in
    let g = unit_range n r.basic c b.0 in
    let m : value_at r.line.entries j ≤ℚ zero_ℚ = h.0 in
    let p : zero_ℚ ≤ℚ neg_ℚ (value_at r.line.entries j) = by_linear (value_at r.line.entries j ∷ []) (fact m nothing) (search terms depth 40) tt in
    let q : zero_ℚ ≤ℚ neg_ℚ (value_at r.line.entries j) *ℚ unit r.basic c = mul_nonneg_ℚ (neg_ℚ (value_at r.line.entries j)) (unit r.basic c) p g.0 in
    let s : zero_ℚ ≤ℚ ray j rows c = ih.0 in (
      by_facts (value_at r.line.entries j ∷ unit r.basic c ∷ ray j rows c ∷ []) (by_le 1 q (by_le 1 s end)) (search terms depth 40) tt,
      λ k. by_eqs (value_at r.line.entries j ∷ unit r.basic c ∷ ray j rows c ∷ []) (by_eq (neg_ℚ (value_at r.line.entries j)) (g.1 k) (by_eq one_ℚ (ih.1 k) done)) (search terms depth 40) tt,
    )

-- where no row bounds the entering column, the ray is one of the program
pub ray_of : (n all : ℕ) (cost : List Entry) (rows : List Row) (j : ℕ) (t : Tableau) → n ≤ all → Three all cost rows t → entering n t.objective ≡ Some j → NoneAbove j t.rows → IsRayOf all cost rows (ray j t.rows)
ray_of n all cost rows j t le h e flat_at =
    let x : ℕ → ℚ = point t.rows in
    let d : ℕ → ℚ = ray j t.rows in
    let sx : Solves t.rows x = point_solves t.rows h.1.units in
    let sy : Solves t.rows (λ c. one_ℚ *ℚ d c +ℚ x c) = further t.rows x d sx (ray_flat j t.rows h.1.rows_rise h.1.units) in
    let s : Solves rows x = h.0.back x sx in
    let s2 : Solves rows (λ c. one_ℚ *ℚ d c +ℚ x c) = h.0.back (λ c. one_ℚ *ℚ d c +ℚ x c) sy in
    let k1 : product cost x ≡ product t.objective x +ℚ dot h.0.prices.0 (rights rows) = cost_is cost rows t x h.0 s in
    let k2 : product cost (λ c. one_ℚ *ℚ d c +ℚ x c) ≡ product t.objective (λ c. one_ℚ *ℚ d c +ℚ x c) +ℚ dot h.0.prices.0 (rights rows) = cost_is cost rows t (λ c. one_ℚ *ℚ d c +ℚ x c) h.0 s2 in
    let k3 : product cost (λ c. one_ℚ *ℚ d c +ℚ x c) ≡ one_ℚ *ℚ product cost d +ℚ product cost x = product_two cost one_ℚ d x in
    let k4 : product t.objective (λ c. one_ℚ *ℚ d c +ℚ x c) ≡ one_ℚ *ℚ product t.objective d +ℚ product t.objective x = product_two t.objective one_ℚ d x in
    let same : product cost d ≡ product t.objective d =
    by_eqs (product cost x ∷ product cost d ∷ product t.objective x ∷ product t.objective d ∷ dot h.0.prices.0 (rights rows) ∷ product cost (λ c. one_ℚ *ℚ d c +ℚ x c) ∷ product t.objective (λ c. one_ℚ *ℚ d c +ℚ x c) ∷ [])
    (by_eq (neg_ℚ one_ℚ) k3 (by_eq one_ℚ k2 (by_eq (neg_ℚ one_ℚ) k1 (by_eq one_ℚ k4 done)))) (search terms depth 40) tt in
    let at_j : product t.objective d ≡ value_at t.objective j = zero_on_ray t.objective j t.rows h.1.priced ∙ value_is 0 j t.objective h.1.objective_rises in
    record {
      direction = ray_range all j t.rows (let l : j < n = entering_below n t.objective j e in omega arith) h.2 flat_at;
      flat = flat_again rows x d s s2;
      falls = subst (λ (v : ℚ). v <ℚ zero_ℚ) (sym (same ∙ at_j)) (entering_falls n 0 j t.objective h.1.objective_rises e);
    }

-- ---- multipliers are read at the unit columns
abbrev pub reads : List ℚ → List Row → List Row → List ℚ
reads y all [] = []
reads y all (r ∷ rows) = dot y (values all (unit r.basic)) ∷ reads y all rows

abbrev pub AsLong : List ℚ → List Row → Type 0
AsLong [] [] = Unit {0}
AsLong [] (r ∷ rows) = ⊥
AsLong (v ∷ vs) [] = ⊥
AsLong (v ∷ vs) (r ∷ rows) = AsLong vs rows

pub values_long : (rows : List Row) (x : ℕ → ℚ) → AsLong (values rows x) rows
values_long [] x = tt
values_long (r ∷ rows) x = values_long rows x

pub rights_long : (rows : List Row) → AsLong (rights rows) rows
rights_long [] = tt
rights_long (r ∷ rows) = rights_long rows

dot_zeros : (y : List ℚ) (rows : List Row) (b : ℕ) → AllRows (λ s. product s.line.entries (unit b) ≡ zero_ℚ) rows → dot y (values rows (unit b)) ≡ zero_ℚ
dot_zeros [] rows b h = refl
dot_zeros (a ∷ y) [] b h = refl
dot_zeros (a ∷ y) (r ∷ rows) b h = by_eqs (a ∷ product r.line.entries (unit b) ∷ dot y (values rows (unit b)) ∷ []) (by_eq a h.0 (by_eq one_ℚ (dot_zeros y rows b h.1) done)) (search terms depth 40) tt

no_reads : (all rows : List Row) (v : List ℚ) → AsLong v rows → dot (reads [] all rows) v ≡ zero_ℚ
no_reads all [] v h = refl
no_reads all (r ∷ rows) [] h = refl
no_reads all (r ∷ rows) (w ∷ v) h = by_eqs (w ∷ dot (reads [] all rows) v ∷ []) (by_eq one_ℚ (no_reads all rows v h) done) (search terms depth 40) tt

reads_more : (a : ℚ) (y : List ℚ) (r : Row) (all rows : List Row) (v : List ℚ) → AllRows (λ s. product r.line.entries (unit s.basic) ≡ zero_ℚ) rows → dot (reads (a ∷ y) (r ∷ all) rows) v ≡ dot (reads y all rows) v
reads_more a y r all [] v h = refl
reads_more a y r all (s ∷ rows) [] h = refl
reads_more a y r all (s ∷ rows) (w ∷ v) h =
    by_eqs (a ∷ w ∷ product r.line.entries (unit s.basic) ∷ dot y (values all (unit s.basic)) ∷ dot (reads (a ∷ y) (r ∷ all) rows) v ∷ dot (reads y all rows) v ∷ [])
    (by_eq (a *ℚ w) h.0 (by_eq one_ℚ (reads_more a y r all rows v h.1) done)) (search terms depth 40) tt

pub reads_same : (y : List ℚ) (rows : List Row) (v : List ℚ) → IsUnits rows → AsLong v rows → dot (reads y rows rows) v ≡ dot y v
reads_same [] rows v u h = no_reads rows rows v h
reads_same (a ∷ y) [] [] u h = refl
reads_same (a ∷ y) [] (w ∷ v) u h = absurd h
reads_same (a ∷ y) (r ∷ rows) [] u h = absurd h
reads_same (a ∷ y) (r ∷ rows) (w ∷ v) u h =
    by_eqs (a ∷ w ∷ product r.line.entries (unit r.basic) ∷ dot y (values rows (unit r.basic)) ∷ dot (reads (a ∷ y) (r ∷ rows) rows) v ∷ dot (reads y rows rows) v ∷ dot y v ∷ [])
    (by_eq (a *ℚ w) u.0 (by_eq w (dot_zeros y rows r.basic u.2) (by_eq one_ℚ (reads_more a y r rows rows v u.1) (by_eq one_ℚ (reads_same y rows v u.3 h) done)))) (search terms depth 40) tt
