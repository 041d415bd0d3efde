-- Paths and entries of a tree.
use Rattle.std.proofs.Common.{◌≡◌, ℕ, zero, suc, ◌+◌, ◌-◌, ◌≤◌, Bool, true, false, ◌&&◌, eqb, leb, List, [], ◌∷◌, refl, sym, ap, ap₂, subst, ◌∙◌, arith, eqb-true}
use Rattle.std.proofs.lemmas.Bool.{eq-eqb, ne_eqb, le-leb, and_parts}
use Rattle.rationals.specs.Rational.{ℚ, zero_ℚ, ◌+ℚ◌, ◌*ℚ◌, by_ring, terms, zero_mul_ℚ, add_mul_ℚ}
use Rattle.rationals.specs.Sums.{sum_ℚ, sum-add, sum-zero}
use Rattle.rationals.specs.Sparse.{Entry, product, coefficient, value_if}
use Rattle.scen_defs.specs.Lists.{Each}
use Rattle.scen_defs.specs.Program.{View, IsLive, IsColumn, HasPlace, IsEntry, IsNode, IsTree}
use Rattle.scen_defs.specs.Trees.HasPlace.{is_first, is_below}
use Rattle.scen_defs.specs.Flat.{up, home, is_above, along}
use Rattle.scen_defs.proofs.SumLaws.{each-map, each-once, sum-ext, sum-none, sum-pick}

pub node-laws : (v : View) → IsTree v → (n : ℕ) → IsLive v n → IsNode v n
node-laws v t n l = each-once (IsNode v) n v.live l t.nodes

-- k stages up from a node there is a live node
pub climb : (v : View) → IsTree v → (n : ℕ) → IsLive v n → (k : ℕ) → k ≤ v.stage n → IsLive v (up v k n) × (v.stage (up v k n) + k ≡ v.stage n)
climb v t n l zero h = (l, omega arith)
climb v t n l (suc k) h = go (climb v t n l k (omega arith))
  where
    go : IsLive v (up v k n) × (v.stage (up v k n) + k ≡ v.stage n) → IsLive v (v.parent (up v k n)) × (v.stage (v.parent (up v k n)) + suc k ≡ v.stage n)
    go at = by_place (node-laws v t (up v k n) at.0).place
      where
        by_place : HasPlace v (up v k n) → IsLive v (v.parent (up v k n)) × (v.stage (v.parent (up v k n)) + suc k ≡ v.stage n)
        by_place (is_first e) = absurd (let s : v.stage (up v k n) + k ≡ v.stage n = at.1 in omega (arith, e, s, h))
        by_place (is_below m e) = (m, (let s : v.stage (up v k n) + k ≡ v.stage n = at.1 in omega (arith, e, s)))

pub home-live : (v : View) → IsTree v → (n : ℕ) → IsLive v n → (j : ℕ) → v.stage_of j ≤ v.stage n → IsLive v (home v n j) × (v.stage (home v n j) ≡ v.stage_of j)
home-live v t n l j h = let c : IsLive v (home v n j) × (v.stage (home v n j) + (v.stage n - v.stage_of j) ≡ v.stage n) = climb v t n l (v.stage n - v.stage_of j) (omega arith) in
    (c.0, (let s : v.stage (home v n j) + (v.stage n - v.stage_of j) ≡ v.stage n = c.1 in omega (arith, s, h)))

-- of all values on the tree, an entry of a node meets the one along the node's path
entry-sum : (v : View) → IsTree v → (x : ℕ → ℕ → ℚ) (n : ℕ) → IsLive v n → (e : Entry) → IsEntry v (v.stage n) e
    → sum_ℚ (λ m. sum_ℚ (λ j. value_if (is_above v m n) (value_if (eqb e.column j) e.value) *ℚ x m j) (v.columns (v.stage m))) v.live ≡ e.value *ℚ along v x n e.column
entry-sum v t x n l e i = sum-pick h inner v.live at_home.0 (each-map (λ m k ne. sum-none (term m) (v.columns (v.stage m)) (each-map (λ j c. far m j ne c.stage) (v.columns (v.stage m)) (t.columns (v.stage m)))) v.live t.nodes)
    ∙ sum-pick e.column (term h) (v.columns (v.stage h)) (subst (λ (s : ℕ). IsColumn v s e.column) (sym at_home.1) i.column) (others (v.columns (v.stage h)))
    ∙ ap₂ (λ a b. value_if a (value_if b e.value) *ℚ x h e.column) above (eq-eqb e.column e.column refl)
  where
    h : ℕ
    h = home v n e.column

    term : ℕ → ℕ → ℚ
    term m j = value_if (is_above v m n) (value_if (eqb e.column j) e.value) *ℚ x m j

    inner : ℕ → ℚ
    inner m = sum_ℚ (term m) (v.columns (v.stage m))

    at_home : IsLive v h × (v.stage h ≡ v.stage_of e.column)
    at_home = home-live v t n l e.column i.reached

    above : is_above v h n ≡ true
    above = ap₂ ◌&&◌ (le-leb (v.stage h) (v.stage n) (let s : v.stage h ≡ v.stage_of e.column = at_home.1 in let r : v.stage_of e.column ≤ v.stage n = i.reached in omega (arith, s, r))) (eq-eqb (up v (v.stage n - v.stage h) n) h (ap (λ (s : ℕ). up v (v.stage n - s) n) at_home.1))

    far : (m j : ℕ) → (m ≡ h → ⊥) → v.stage_of j ≡ v.stage m → term m j ≡ zero_ℚ
    far m j ne s = go (is_above v m n) refl (eqb e.column j) refl
      where
        go : (a : Bool) → is_above v m n ≡ a → (b : Bool) → eqb e.column j ≡ b → value_if a (value_if b e.value) *ℚ x m j ≡ zero_ℚ
        go false p b q = zero_mul_ℚ (x m j)
        go true p false q = zero_mul_ℚ (x m j)
        go true p true q = absurd (ne (sym (eqb-true (up v (v.stage n - v.stage m) n) m (and_parts (leb (v.stage m) (v.stage n)) (eqb (up v (v.stage n - v.stage m) n) m) p).1)
            ∙ ap (λ (s : ℕ). up v (v.stage n - s) n) (sym s ∙ ap v.stage_of (sym (eqb-true e.column j q)))))

    others : (ks : List ℕ) → Each (λ k. (k ≡ e.column → ⊥) → term h k ≡ zero_ℚ) ks
    others [] = tt
    others (k ∷ ks) = ((λ ne. ap (λ b. value_if (is_above v h n) (value_if b e.value) *ℚ x h k) (ne_eqb e.column k (λ p. ne (sym p))) ∙ nil (is_above v h n) k), others ks)
      where
        nil : (a : Bool) (k : ℕ) → value_if a zero_ℚ *ℚ x h k ≡ zero_ℚ
        nil true k = zero_mul_ℚ (x h k)
        nil false k = zero_mul_ℚ (x h k)

value_if-add : (b : Bool) (p q w : ℚ) → value_if b (p +ℚ q) *ℚ w ≡ value_if b p *ℚ w +ℚ value_if b q *ℚ w
value_if-add true p q w = add_mul_ℚ p q w
value_if-add false p q w = by_ring (w ∷ []) (search terms depth 40) tt

-- a form of a node meets the values along the node's path
pub form-sum : (v : View) → IsTree v → (x : ℕ → ℕ → ℚ) (n : ℕ) → IsLive v n → (f : List Entry) → Each (IsEntry v (v.stage n)) f
    → sum_ℚ (λ m. sum_ℚ (λ j. value_if (is_above v m n) (coefficient f j) *ℚ x m j) (v.columns (v.stage m))) v.live ≡ product f (along v x n)
form-sum v t x n l [] h = sum-ext _ _ (λ m. sum-ext _ _ (λ j. nil (is_above v m n) (x m j)) (v.columns (v.stage m)) ∙ sum-zero (v.columns (v.stage m))) v.live ∙ sum-zero v.live
  where
    nil : (b : Bool) (w : ℚ) → value_if b zero_ℚ *ℚ w ≡ zero_ℚ
    nil true w = zero_mul_ℚ w
    nil false w = zero_mul_ℚ w
form-sum v t x n l (e ∷ f) h =
    sum-ext _ _ (λ m. sum-ext _ _ (λ j. value_if-add (is_above v m n) (value_if (eqb e.column j) e.value) (coefficient f j) (x m j)) (v.columns (v.stage m))
    ∙ sum-add (λ j. value_if (is_above v m n) (value_if (eqb e.column j) e.value) *ℚ x m j) (λ j. value_if (is_above v m n) (coefficient f j) *ℚ x m j) (v.columns (v.stage m))) v.live
    ∙ sum-add (λ m. sum_ℚ (λ j. value_if (is_above v m n) (value_if (eqb e.column j) e.value) *ℚ x m j) (v.columns (v.stage m))) (λ m. sum_ℚ (λ j. value_if (is_above v m n) (coefficient f j) *ℚ x m j) (v.columns (v.stage m))) v.live
    ∙ ap₂ ◌+ℚ◌ (entry-sum v t x n l e h.0) (form-sum v t x n l f h.1)
