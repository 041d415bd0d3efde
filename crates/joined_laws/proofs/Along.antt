-- Points of a tree's nodes, each beside the values above it: along a node they have the values of the points on its path.
use Rattle.std.proofs.Common.{◌≡◌, ℕ, zero, suc, ◌-◌, ◌≤◌, ◌<◌, List, [], ◌∷◌, ◌⊎◌, inl, inr, refl, sym, ap, ap₂, subst, ◌∙◌, arith}
use Rattle.std.proofs.lemmas.Bool.{ne_eqb}
use Rattle.rationals.specs.Rational.{ℚ, zero_ℚ, ◌+ℚ◌, ◌*ℚ◌, ◌≤ℚ◌, by_linear, terms, mul_mono_ℚ, zero_add_ℚ, add_zero_ℚ}
use Rattle.rationals.specs.Ring.Given.{nothing, fact, equal}
use Rattle.rationals.specs.Sums.{sum_ℚ}
use Rattle.rationals.specs.Sparse.{Entry, product, coefficient, value_if}
use Rattle.scen_defs.specs.Lists.{Each, Once}
use Rattle.rationals.specs.Intervals.{Between}
use Rattle.scen_defs.specs.declared.program.NodeRow.{NodeRow}
use Rattle.scen_defs.specs.Program.{View, IsLive, IsColumn, HasPlace, IsEntry, IsColumnOf, IsTree}
use Rattle.scen_defs.specs.Trees.HasPlace.{is_first, is_below}
use Rattle.scen_defs.specs.Flat.{up, home, along, FeasibleAt, Feasible, node_cost, children, share}
use Rattle.scen_defs.proofs.SumLaws.{each-map, each-both, each-once, sum-same, sum-below}
use Rattle.scen_defs.proofs.TreeLaws.{node-laws, home-live}
use Rattle.scen_defs.proofs.Subtrees.{up-shift}
use Rattle.cut_defs.specs.Laws.{CoversCosts}
use Rattle.cut_defs.proofs.CutLaws.{each-child}
use Rattle.cut_defs.proofs.Closure.{share-nonneg}

-- a form without the column
pub without : (f : List Entry) (j : ℕ) → Each (λ (e : Entry). e.column ≡ j → ⊥) f → coefficient f j ≡ zero_ℚ
without [] j h = refl
without (e ∷ f) j h = ap₂ (λ b z. value_if b e.value +ℚ z) (ne_eqb e.column j h.0) (without f j h.1) ∙ zero_add_ℚ zero_ℚ

-- the points of nodes, the values along them, and one number for each node and column
pub record StandTogether (v : View) (point beside : ℕ → List Entry) (x : ℕ → ℕ → ℚ) : Type 0 where
  pub own : (n : ℕ) → IsLive v n → Each (λ (e : Entry). Once e.column (v.columns (v.stage n))) (point n)
  pub first : (n j : ℕ) → IsLive v n → v.stage n ≡ 0 → coefficient (beside n) j ≡ coefficient (point n) j
  pub later : (n s j : ℕ) → IsLive v n → v.stage n ≡ suc s
      → coefficient (beside n) j ≡ coefficient (beside (v.parent n)) j +ℚ coefficient (point n) j
  pub value : (n s j : ℕ) → IsLive v n → IsColumn v s j → x n j ≡ coefficient (point n) j

module _ (v : View) (point beside : ℕ → List Entry) (x : ℕ → ℕ → ℚ) (t : IsTree v) (h : StandTogether v point beside x) where
  stage_is : (s j : ℕ) → IsColumn v s j → v.stage_of j ≡ s
  stage_is s j o = (each-once (IsColumnOf v s) j (v.columns s) o (t.columns s)).stage

  -- a column of another stage
  other_stage : (n j : ℕ) → IsLive v n → (v.stage_of j ≡ v.stage n → ⊥) → coefficient (point n) j ≡ zero_ℚ
  other_stage n j l ne = without (point n) j (each-map {Q = λ (e : Entry). e.column ≡ j → ⊥}
      (λ e o d. ne (ap v.stage_of (sym d) ∙ stage_is (v.stage n) e.column o)) (point n) (h.own n l))

  -- the parent of a node past stage 0
  parent_is : (n s : ℕ) → IsLive v n → v.stage n ≡ suc s → IsLive v (v.parent n) × (v.stage (v.parent n) ≡ s)
  parent_is n s l e = go (node-laws v t n l).place
    where
      go : HasPlace v n → IsLive v (v.parent n) × (v.stage (v.parent n) ≡ s)
      go (is_first z) = absurd (omega (arith, z, e))
      go (is_below p q) = (p, omega (arith, q, e))

  -- along a node stands no column of a later stage
  none_later : (s n j : ℕ) → IsLive v n → v.stage n ≡ s → s < v.stage_of j → coefficient (beside n) j ≡ zero_ℚ
  none_later zero n j l e k = h.first n j l e ∙ other_stage n j l (λ d. omega (arith, d, e, k))
  none_later (suc s) n j l e k =
      let p : IsLive v (v.parent n) × (v.stage (v.parent n) ≡ s) = parent_is n s l e in
      h.later n s j l e
      ∙ ap₂ ◌+ℚ◌ (none_later s (v.parent n) j p.0 p.1 (omega (arith, k))) (other_stage n j l (λ d. omega (arith, d, e, k)))
      ∙ zero_add_ℚ zero_ℚ

  at_or_after : (a s : ℕ) → a ≤ suc s → (a ≤ s) ⊎ (a ≡ suc s)
  at_or_after a s k = grind arith

  -- and the others as in the point of their node on the path
  path_value : (s n j : ℕ) → IsLive v n → v.stage n ≡ s → v.stage_of j ≤ s
      → coefficient (beside n) j ≡ coefficient (point (up v (s - v.stage_of j) n)) j
  path_value zero n j l e k = h.first n j l e
      ∙ (let q : 0 ≡ 0 - v.stage_of j = omega arith in ap (λ (i : ℕ). coefficient (point (up v i n)) j) q)
  path_value (suc s) n j l e k = go (at_or_after (v.stage_of j) s k) (path_value s (v.parent n) j p.0 p.1)
    where
      p : IsLive v (v.parent n) × (v.stage (v.parent n) ≡ s)
      p = parent_is n s l e

      go : (v.stage_of j ≤ s) ⊎ (v.stage_of j ≡ suc s)
          → (v.stage_of j ≤ s → coefficient (beside (v.parent n)) j ≡ coefficient (point (up v (s - v.stage_of j) (v.parent n))) j)
          → coefficient (beside n) j ≡ coefficient (point (up v (suc s - v.stage_of j) n)) j
      go (inl q) rest =
          let d : suc (s - v.stage_of j) ≡ suc s - v.stage_of j = omega (arith, q) in
          h.later n s j l e ∙ ap₂ ◌+ℚ◌ (rest q) (other_stage n j l (λ z. omega (arith, z, e, q))) ∙ add_zero_ℚ _
          ∙ ap (λ (i : ℕ). coefficient (point i) j) (sym (up-shift v (s - v.stage_of j) n) ∙ ap (λ (i : ℕ). up v i n) d)
      go (inr q) rest =
          let d : 0 ≡ suc s - v.stage_of j = omega (arith, q) in
          h.later n s j l e
          ∙ ap (λ z. z +ℚ coefficient (point n) j) (none_later s (v.parent n) j p.0 p.1 (omega (arith, q))) ∙ zero_add_ℚ _
          ∙ ap (λ (i : ℕ). coefficient (point (up v i n)) j) d

  -- an entry of a node's row meets the number along its path
  entry_value : (n : ℕ) (e : Entry) → IsLive v n → IsEntry v (v.stage n) e → coefficient (beside n) e.column ≡ along v x n e.column
  entry_value n e l i =
      path_value (v.stage n) n e.column l refl i.reached
      ∙ sym (h.value (home v n e.column) (v.stage_of e.column) e.column (home-live v t n l e.column i.reached).0 i.column)

  row_value : (n : ℕ) (f : List Entry) → IsLive v n → Each (IsEntry v (v.stage n)) f
      → product f (coefficient (beside n)) ≡ product f (along v x n)
  row_value n f l i = sum-same _ _ f
      (each-map {Q = λ (e : Entry). e.value *ℚ coefficient (beside n) e.column ≡ e.value *ℚ along v x n e.column}
      (λ e k. ap (λ z. e.value *ℚ z) (entry_value n e l k)) f i)

  -- points that meet their rows and bounds are feasible together
  pub together_feasible
      : ((n : ℕ) → IsLive v n → Each (λ (r : NodeRow). Between r.low r.high (product r.entries (coefficient (beside n)))) (v.rows n))
      → ((n : ℕ) → IsLive v n → Each (λ j. Between (v.lower j) (v.upper j) (coefficient (point n) j)) (v.columns (v.stage n)))
      → Feasible v x
  together_feasible rows bounds = each-map {Q = FeasibleAt v x} (λ n i. record {
    rows = each-both {R = λ (r : NodeRow). Between r.low r.high (product r.entries (along v x n))}
        (λ r k b. subst (Between r.low r.high) (row_value n r.entries i.live k.entries) b) (v.rows n) i.rows (rows n i.live);
    bounds = each-both {R = λ j. Between (v.lower j) (v.upper j) (x n j)}
        (λ j k b. subst (Between (v.lower j) (v.upper j)) (sym (h.value n (v.stage n) j i.live k.once)) b)
        (v.columns (v.stage n)) (t.columns (v.stage n)) (bounds n i.live);
  }) v.live t.nodes

  -- what a node's point costs
  pub point_cost : (n : ℕ) → IsLive v n → node_cost v x n ≡ product (v.cost n) (coefficient (point n))
  point_cost n l = sum-same (λ (e : Entry). e.value *ℚ x n e.column) (λ (e : Entry). e.value *ℚ coefficient (point n) e.column) (v.cost n)
      (each-map {Q = λ (e : Entry). e.value *ℚ x n e.column ≡ e.value *ℚ coefficient (point n) e.column}
      (λ e o. ap (λ z. e.value *ℚ z) (h.value n (v.stage n) e.column l o)) (v.cost n) (node-laws v t n l).cost)

  raised : (c s w a : ℚ) → a ≡ c +ℚ w → s ≤ℚ w → c +ℚ s ≤ℚ a
  raised c s w a e k = by_linear (c ∷ s ∷ w ∷ a ∷ []) (equal e (fact k nothing)) (search terms depth 40) tt

  -- the numbers of node n's children, by their shares
  abbrev shared : (ℕ → ℚ) → ℕ → ℚ
  shared f n = sum_ℚ (λ m. share v m *ℚ f m) (children v n)

  shared_below : (f g : ℕ → ℚ) (n : ℕ) → IsLive v n → Each (λ m. f m ≤ℚ g m) (children v n) → shared f n ≤ℚ shared g n
  shared_below f g n l h = sum-below (λ m. share v m *ℚ f m) (λ m. share v m *ℚ g m) (children v n)
      (each-both {R = λ m. share v m *ℚ f m ≤ℚ share v m *ℚ g m} (λ m s b. mul_mono_ℚ s b) (children v n)
      (each-child v t n (λ m. zero_ℚ ≤ℚ share v m) (λ m k e. share-nonneg v t n m l k e)) h)

  -- numbers that are what the points cost and, by their shares, what is no less than the children's numbers
  pub together_covered : (value_of : ℕ → ℚ) (child_cost : (n : ℕ) → IsLive v n → ℕ → ℚ)
      → ((n : ℕ) (l : IsLive v n) → value_of n ≡ product (v.cost n) (coefficient (point n)) +ℚ shared (child_cost n l) n)
      → ((n : ℕ) (l : IsLive v n) → Each (λ m. value_of m ≤ℚ child_cost n l m) (children v n))
      → CoversCosts v x value_of
  together_covered value_of child_cost is below = each-map {Q = λ n. node_cost v x n +ℚ shared value_of n ≤ℚ value_of n}
      (λ n i. raised (node_cost v x n) (shared value_of n) (shared (child_cost n i.live) n) (value_of n)
      (is n i.live ∙ ap (λ z. z +ℚ shared (child_cost n i.live) n) (sym (point_cost n i.live)))
      (shared_below value_of (child_cost n i.live) n i.live (below n i.live))) v.live t.nodes
