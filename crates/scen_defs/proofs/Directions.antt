-- Along a direction the cost falls without limit.
use Rattle.std.proofs.Common.{◌≡◌, ℕ, List, [], ◌∷◌, Option, Some, None, map, ⊎_elim, sym, ap, subst, ◌∙◌}
use Rattle.rationals.specs.Rational.{ℚ, zero_ℚ, one_ℚ, ◌+ℚ◌, ◌*ℚ◌, ◌-ℚ◌, neg_ℚ, inv_ℚ, ◌≤ℚ◌, ◌<ℚ◌, by_ring, by_linear, by_eqs, by_facts, terms, le_refl_ℚ, le_of_same_ℚ, le_total_ℚ, lt_le_ℚ, lt_by, mul_inv_ℚ, ne_of_gt_ℚ, inv_nonneg_ℚ, mul_nonneg_ℚ}
use Rattle.rationals.specs.Ring.Eqs.{done, by_eq}
use Rattle.rationals.specs.Ring.Facts.{end, by_le, by_times}
use Rattle.rationals.specs.Ring.Given.{nothing, fact}
use Rattle.rationals.specs.Sums.{sum_ℚ, sum-add, sum-scale}
use Rattle.rationals.specs.Sparse.{product, product-along}
use Rattle.scen_defs.specs.Lists.{Each}
use Rattle.rationals.specs.Intervals.{AtLeast, AtMost, Between}
use Rattle.scen_defs.specs.Program.{View, Scenario}
use Rattle.scen_defs.specs.declared.program.NodeRow.{NodeRow}
use Rattle.scen_defs.specs.Flat.{along, node_cost, cost, Feasible, zero_end, zero_row, with_zero_ends}
use Rattle.scen_defs.specs.Laws.{UnboundednessShown}
use Rattle.scen_defs.proofs.SumLaws.{each-both, sum-ext}

each-unmap : {A B : Type 0} (P : B → Type 0) (f : A → B) (xs : List A) → Each P (map f xs) → Each (λ x. P (f x)) xs
each-unmap P f [] h = tt
each-unmap P f (x ∷ xs) h = (h.0, each-unmap P f xs h.1)

-- x and t times d
ahead : (ℕ → ℕ → ℚ) → (ℕ → ℕ → ℚ) → ℚ → ℕ → ℕ → ℚ
ahead x d t n j = x n j +ℚ t *ℚ d n j

still-between : (low high : Option ℚ) (a b t : ℚ) → zero_ℚ ≤ℚ t → Between low high a → Between (zero_end low) (zero_end high) b → Between low high (a +ℚ t *ℚ b)
still-between low high a b t p h k = record { above = up low h.above k.above; below = down high h.below k.below }
  where
    up : (low : Option ℚ) → AtLeast low a → AtLeast (zero_end low) b → AtLeast low (a +ℚ t *ℚ b)
    up None h k = tt
    up (Some l) h k = let q : l ≤ℚ a = h in let r : zero_ℚ ≤ℚ b = k in by_facts (l ∷ a ∷ b ∷ t ∷ []) (by_le 1 q (by_times p r end)) (search terms depth 40) tt

    down : (high : Option ℚ) → AtMost high a → AtMost (zero_end high) b → AtMost high (a +ℚ t *ℚ b)
    down None h k = tt
    down (Some l) h k = let q : a ≤ℚ l = h in let r : b ≤ℚ zero_ℚ = k in by_facts (l ∷ a ∷ b ∷ t ∷ []) (by_le 1 q (by_times p r end)) (search terms depth 40) tt

ahead-feasible : (v : View) (x d : ℕ → ℕ → ℚ) (t : ℚ) → zero_ℚ ≤ℚ t → Feasible v x → Feasible (with_zero_ends v) d → Feasible v (ahead x d t)
unfolding ahead
ahead-feasible v x d t p f g = each-both (λ n a b. record {
  rows = each-both (λ r h k. subst (λ (z : ℚ). Between r.low r.high z) (sym (product-along r.entries (along v x n) (along v d n) t)) (still-between r.low r.high (product r.entries (along v x n)) (product r.entries (along v d n)) t p h k)) (v.rows n) a.rows
      (each-unmap (λ (r : NodeRow). Between r.low r.high (product r.entries (along v d n))) zero_row (v.rows n) b.rows);
  bounds = each-both (λ j h k. still-between (v.lower j) (v.upper j) (x n j) (d n j) t p h k) (v.columns (v.stage n)) a.bounds b.bounds;
}) v.live f g

ahead-cost : (v : View) (x d : ℕ → ℕ → ℚ) (t : ℚ) → cost v (ahead x d t) ≡ cost v x +ℚ t *ℚ cost v d
unfolding ahead cost
ahead-cost v x d t =
    sum-ext _ _ (λ (s : Scenario). ap (λ z. s.probability *ℚ z) (sum-ext _ _ (λ n. product-along (v.cost n) (x n) (d n) t) s.path
    ∙ sum-add (node_cost v x) (λ n. t *ℚ node_cost v d n) s.path ∙ ap (λ z. sum_ℚ (node_cost v x) s.path +ℚ z) (sum-scale t (node_cost v d) s.path))
    ∙ by_ring (s.probability ∷ sum_ℚ (node_cost v x) s.path ∷ t ∷ sum_ℚ (node_cost v d) s.path ∷ []) (search terms depth 40) tt) v.scenarios
    ∙ sum-add (λ (s : Scenario). s.probability *ℚ sum_ℚ (node_cost v x) s.path) (λ (s : Scenario). t *ℚ (s.probability *ℚ sum_ℚ (node_cost v d) s.path)) v.scenarios
    ∙ ap (λ z. sum_ℚ (λ (s : Scenario). s.probability *ℚ sum_ℚ (node_cost v x) s.path) v.scenarios +ℚ z) (sum-scale t (λ (s : Scenario). s.probability *ℚ sum_ℚ (node_cost v d) s.path) v.scenarios)

-- a step that is long enough
step : (a b limit : ℚ) → b <ℚ zero_ℚ → (t : ℚ) × (zero_ℚ ≤ℚ t) × (a +ℚ t *ℚ b ≤ℚ limit)
step a b limit h = ⊎_elim
    (λ k. (zero_ℚ, le_refl_ℚ zero_ℚ, (let q : a ≤ℚ limit = k in by_linear (a ∷ b ∷ limit ∷ []) (fact q nothing) (search terms depth 40) tt)))
    (λ k. let c : ℚ = neg_ℚ b in
    let p : zero_ℚ <ℚ neg_ℚ b = lt_by h (λ z. by_linear (b ∷ []) (fact z nothing) (search terms depth 40) tt) in
    let q : zero_ℚ ≤ℚ a -ℚ limit = (let r : limit ≤ℚ a = lt_le_ℚ k in by_linear (a ∷ limit ∷ []) (fact r nothing) (search terms depth 40) tt) in
    let e : neg_ℚ b *ℚ inv_ℚ (neg_ℚ b) ≡ one_ℚ = mul_inv_ℚ (neg_ℚ b) (ne_of_gt_ℚ p) in (
      (a -ℚ limit) *ℚ inv_ℚ (neg_ℚ b),
      mul_nonneg_ℚ (a -ℚ limit) (inv_ℚ (neg_ℚ b)) q (inv_nonneg_ℚ p),
      le_of_same_ℚ (by_eqs (a ∷ b ∷ limit ∷ inv_ℚ (neg_ℚ b) ∷ []) (by_eq (neg_ℚ (a -ℚ limit)) e done) (search terms depth 40) tt),
    ))
    (le_total_ℚ a limit)

pub unboundedness_shown : UnboundednessShown
unboundedness_shown v x d t f g limit = let s : (t : ℚ) × (zero_ℚ ≤ℚ t) × (cost v x +ℚ t *ℚ cost v d ≤ℚ limit) = step (cost v x) (cost v d) limit g.falls in
    (ahead x d s.0, ahead-feasible v x d s.0 s.1 f g.feasible, subst (λ (z : ℚ). z ≤ℚ limit) (sym (ahead-cost v x d s.0)) s.2)
