-- The cost by scenarios is the cost by nodes.
use Rattle.std.proofs.Common.{◌≡◌, ℕ, Bool, true, false, ◌||◌, eqb, List, [], ◌∷◌, refl, sym, ap, ap₂, ◌∙◌, eqb-true}
use Rattle.std.proofs.lemmas.Bool.{eq-eqb, ne_eqb}
use Rattle.rationals.specs.Rational.{ℚ, zero_ℚ, ◌+ℚ◌, ◌*ℚ◌, by_ring, terms, add_zero_ℚ}
use Rattle.rationals.specs.Sums.{sum_ℚ, sum-add, sum-zero, sum-swap, sum-scale}
use Rattle.rationals.specs.Sparse.{value_if}
use Rattle.scen_defs.specs.Lists.{Each, Once, Absent, Distinct, is_in}
use Rattle.scen_defs.specs.Program.{View, Scenario, IsTree, total}
use Rattle.scen_defs.specs.Flat.{node_cost, cost}
use Rattle.scen_defs.proofs.SumLaws.{each-map, sum-ext, sum-same, sum-times, sum-pick}

not_in : (n : ℕ) (xs : List ℕ) → Absent n xs → is_in n xs ≡ false
not_in n [] h = refl
not_in n (x ∷ xs) h = ap₂ ◌||◌ (ne_eqb x n h.0) (not_in n xs h.1)

-- a sum over a path as a sum over the live nodes
path-sum : (f : ℕ → ℚ) (live xs : List ℕ) → Distinct xs → Each (λ n. Once n live) xs → sum_ℚ f xs ≡ sum_ℚ (λ n. value_if (is_in n xs) (f n)) live
path-sum f live [] d h = sym (sum-zero live)
path-sum f live (x ∷ xs) d h = ap₂ ◌+ℚ◌
    (sym (sum-pick x (λ n. value_if (eqb x n) (f n)) live h.0 (others live) ∙ ap (λ b. value_if b (f x)) (eq-eqb x x refl)))
    (path-sum f live xs d.1 h.1)
    ∙ sym (sum-add (λ n. value_if (eqb x n) (f n)) (λ n. value_if (is_in n xs) (f n)) live)
    ∙ sum-ext _ _ both live
  where
    others : (ks : List ℕ) → Each (λ k. (k ≡ x → ⊥) → value_if (eqb x k) (f k) ≡ zero_ℚ) ks
    others [] = tt
    others (k ∷ ks) = ((λ ne. ap (λ b. value_if b (f k)) (ne_eqb x k (λ p. ne (sym p)))), others ks)

    both : (n : ℕ) → value_if (eqb x n) (f n) +ℚ value_if (is_in n xs) (f n) ≡ value_if (eqb x n || is_in n xs) (f n)
    both n = go (eqb x n) refl
      where
        go : (b : Bool) → eqb x n ≡ b → value_if b (f n) +ℚ value_if (is_in n xs) (f n) ≡ value_if (b || is_in n xs) (f n)
        go true p = ap (λ c. f n +ℚ value_if c (f n)) (ap (λ (k : ℕ). is_in k xs) (sym (eqb-true x n p)) ∙ not_in x xs d.0) ∙ add_zero_ℚ (f n)
        go false p = by_ring (value_if (is_in n xs) (f n) ∷ []) (search terms depth 40) tt

pub cost-by_nodes : (v : View) → IsTree v → (x : ℕ → ℕ → ℚ) → cost v x ≡ sum_ℚ (λ n. total v n *ℚ node_cost v x n) v.live
unfolding cost
cost-by_nodes v t x =
    sum-same _ (λ (s : Scenario). sum_ℚ (λ n. value_if (is_in n s.path) s.probability *ℚ node_cost v x n) v.live) v.scenarios
    (each-map (λ s h. ap (λ z. s.probability *ℚ z) (path-sum (node_cost v x) v.live s.path h.distinct h.live)
    ∙ sym (sum-scale s.probability (λ n. value_if (is_in n s.path) (node_cost v x n)) v.live)
    ∙ sum-ext _ _ (λ n. into (is_in n s.path) s.probability (node_cost v x n)) v.live) v.scenarios t.paths)
    ∙ sum-swap (λ (s : Scenario) n. value_if (is_in n s.path) s.probability *ℚ node_cost v x n) v.scenarios v.live
    ∙ sum-ext _ _ (λ n. sum-times (node_cost v x n) (λ (s : Scenario). value_if (is_in n s.path) s.probability) v.scenarios) v.live
  where
    into : (b : Bool) (p c : ℚ) → p *ℚ value_if b c ≡ value_if b p *ℚ c
    into true p c = refl
    into false p c = by_ring (p ∷ c ∷ []) (search terms depth 40) tt
