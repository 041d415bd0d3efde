-- Weak duality on the tree: the cost less the value is a sum of products of multipliers and slacks.
use Rattle.std.proofs.Common.{◌≡◌, ℕ, Bool, true, false, List, [], ◌∷◌, sym, ap, ap₂, ◌∙◌}
use Rattle.rationals.specs.Rational.{ℚ, zero_ℚ, ◌*ℚ◌, ◌-ℚ◌, ◌≤ℚ◌, by_ring, by_linear, terms, zero_mul_ℚ, not_le_of_lt_ℚ}
use Rattle.rationals.specs.Ring.Given.{nothing, fact, equal}
use Rattle.rationals.specs.Sums.{sum_ℚ, sum-zero, sum-scale}
use Rattle.rationals.specs.Sparse.{product, coefficient, value_if}
use Rattle.scen_defs.specs.Ends.{worth}
use Rattle.scen_defs.specs.Program.{View, HasPlace, IsTree, total}
use Rattle.scen_defs.specs.declared.program.NodeRow.{NodeRow}
use Rattle.scen_defs.specs.Trees.HasPlace.{is_first, is_below}
use Rattle.scen_defs.specs.Flat.{is_above, subtree, along, cost, Feasible, reduced, value, without_costs}
use Rattle.scen_defs.specs.Laws.{WeakDuality, InfeasibilityShown}
use Rattle.scen_defs.proofs.SumLaws.{each-map, each-both, sum-ext, sum-same, sum-below, sum-sub, sum-times, sum-keep, product-over, sum-swap4}
use Rattle.scen_defs.proofs.EndLaws.{worth-below}
use Rattle.scen_defs.proofs.TreeLaws.{form-sum}
use Rattle.scen_defs.proofs.Costs.{cost-by_nodes}

-- the rows' multipliers, each times its row's sum
rows_at : View → (ℕ → ℕ → ℚ) → (ℕ → ℕ → ℚ) → ℚ
rows_at v x y = sum_ℚ (λ n. sum_ℚ (λ (r : NodeRow). product r.entries (along v x n) *ℚ y n r.row) (v.rows n)) v.live

columns_at : View → (ℕ → ℕ → ℚ) → (ℕ → ℕ → ℚ) → ℚ
columns_at v x y = sum_ℚ (λ m. sum_ℚ (λ j. reduced v y m j *ℚ x m j) (v.columns (v.stage m))) v.live

spread : {A : Type 0} (b : Bool) (c y : A → ℚ) (w : ℚ) (rs : List A) → value_if b (sum_ℚ (λ r. c r *ℚ y r) rs) *ℚ w ≡ sum_ℚ (λ r. value_if b (c r) *ℚ w *ℚ y r) rs
spread true c y w rs = sym (sum-times w (λ r. c r *ℚ y r) rs) ∙ sum-ext _ _ (λ r. by_ring (c r ∷ y r ∷ w ∷ []) (search terms depth 40) tt) rs
spread false c y w rs = zero_mul_ℚ w ∙ sym (sum-ext _ (λ r. zero_ℚ) (λ r. by_ring (w ∷ y r ∷ []) (search terms depth 40) tt) rs ∙ sum-zero rs)

-- reduced costs times values are costs less rows
columns-at : (v : View) → IsTree v → (x y : ℕ → ℕ → ℚ) → columns_at v x y ≡ cost v x -ℚ rows_at v x y
unfolding columns_at rows_at reduced
columns-at v t x y =
    sum-ext _ _ (λ m. sum-ext _ _ (one m) (v.columns (v.stage m))
    ∙ sum-sub (λ j. total v m *ℚ (coefficient (v.cost m) j *ℚ x m j)) (λ j. sum_ℚ (λ n. sum_ℚ (g m j n) (v.rows n)) v.live) (v.columns (v.stage m))) v.live
    ∙ sum-sub (λ m. sum_ℚ (λ j. total v m *ℚ (coefficient (v.cost m) j *ℚ x m j)) (v.columns (v.stage m))) (λ m. sum_ℚ (λ j. sum_ℚ (λ n. sum_ℚ (g m j n) (v.rows n)) v.live) (v.columns (v.stage m))) v.live
    ∙ ap₂ ◌-ℚ◌ costs (sum-swap4 v.live (λ m. v.columns (v.stage m)) v.live v.rows g ∙ rows)
  where
    g : ℕ → ℕ → ℕ → NodeRow → ℚ
    g m j n r = value_if (is_above v m n) (coefficient r.entries j) *ℚ x m j *ℚ y n r.row

    one : (m j : ℕ) → reduced v y m j *ℚ x m j ≡ total v m *ℚ (coefficient (v.cost m) j *ℚ x m j) -ℚ sum_ℚ (λ n. sum_ℚ (g m j n) (v.rows n)) v.live
    one m j = by_ring (total v m ∷ coefficient (v.cost m) j ∷ x m j ∷ sum_ℚ (λ n. sum_ℚ (λ (r : NodeRow). coefficient r.entries j *ℚ y n r.row) (v.rows n)) (subtree v m) ∷ []) (search terms depth 40) tt
        ∙ ap (λ z. total v m *ℚ (coefficient (v.cost m) j *ℚ x m j) -ℚ z)
        (ap (λ z. z *ℚ x m j) (sum-keep (λ n. is_above v m n) (λ n. sum_ℚ (λ (r : NodeRow). coefficient r.entries j *ℚ y n r.row) (v.rows n)) v.live)
        ∙ sym (sum-times (x m j) (λ n. value_if (is_above v m n) (sum_ℚ (λ (r : NodeRow). coefficient r.entries j *ℚ y n r.row) (v.rows n))) v.live)
        ∙ sum-ext _ _ (λ n. spread (is_above v m n) (λ (r : NodeRow). coefficient r.entries j) (λ (r : NodeRow). y n r.row) (x m j) (v.rows n)) v.live)

    costs : sum_ℚ (λ m. sum_ℚ (λ j. total v m *ℚ (coefficient (v.cost m) j *ℚ x m j)) (v.columns (v.stage m))) v.live ≡ cost v x
    costs = sum-same _ _ v.live (each-map (λ m k. sum-scale (total v m) (λ j. coefficient (v.cost m) j *ℚ x m j) (v.columns (v.stage m))
        ∙ ap (λ z. total v m *ℚ z) (product-over (v.cost m) (x m) (v.columns (v.stage m)) k.cost)) v.live t.nodes)
        ∙ sym (cost-by_nodes v t x)

    rows : sum_ℚ (λ n. sum_ℚ (λ (r : NodeRow). sum_ℚ (λ m. sum_ℚ (λ j. g m j n r) (v.columns (v.stage m))) v.live) (v.rows n)) v.live
        ≡ sum_ℚ (λ n. sum_ℚ (λ (r : NodeRow). product r.entries (along v x n) *ℚ y n r.row) (v.rows n)) v.live
    rows = sum-same _ _ v.live (each-map (λ n k. sum-same _ _ (v.rows n) (each-map (λ r i.
        sum-ext _ _ (λ m. sum-times (y n r.row) (λ j. value_if (is_above v m n) (coefficient r.entries j) *ℚ x m j) (v.columns (v.stage m))) v.live
        ∙ sum-times (y n r.row) (λ m. sum_ℚ (λ j. value_if (is_above v m n) (coefficient r.entries j) *ℚ x m j) (v.columns (v.stage m))) v.live
        ∙ ap (λ z. z *ℚ y n r.row) (form-sum v t x n k.live r.entries i.entries)) (v.rows n) k.rows)) v.live t.nodes)

turn : (a y w : ℚ) → a ≤ℚ y *ℚ w → a ≤ℚ w *ℚ y
turn a y w h = by_linear (a ∷ y ∷ w ∷ []) (fact h nothing) (search terms depth 40) tt

pub weak_duality : WeakDuality
unfolding value rows_at columns_at
weak_duality v x y t f g =
    let rows : ℚ = sum_ℚ (λ n. sum_ℚ (λ (r : NodeRow). worth r.low r.high (y n r.row)) (v.rows n)) v.live in
    let columns : ℚ = sum_ℚ (λ n. sum_ℚ (λ j. worth (v.lower j) (v.upper j) (reduced v y n j)) (v.columns (v.stage n))) v.live in
    let h : rows ≤ℚ rows_at v x y = sum-below _ _ v.live (each-both (λ n a b. sum-below _ _ (v.rows n)
    (each-both (λ r p q. turn (worth r.low r.high (y n r.row)) (y n r.row) (product r.entries (along v x n)) (worth-below r.low r.high (y n r.row) (product r.entries (along v x n)) p q)) (v.rows n) a.rows b.rows)) v.live g f) in
    let k : columns ≤ℚ columns_at v x y = sum-below _ _ v.live (each-both (λ n a b. sum-below _ _ (v.columns (v.stage n))
    (each-both (λ j p q. worth-below (v.lower j) (v.upper j) (reduced v y n j) (x n j) p q) (v.columns (v.stage n)) a.bounds b.bounds)) v.live g f) in
    let e : columns_at v x y ≡ cost v x -ℚ rows_at v x y = columns-at v t x y in
    by_linear (rows ∷ columns ∷ rows_at v x y ∷ columns_at v x y ∷ cost v x ∷ []) (fact h (fact k (equal e nothing))) (search terms depth 40) tt

-- ---- the certificate of infeasibility
tree-without_costs : (v : View) → IsTree v → IsTree (without_costs v)
tree-without_costs v t = record {
  nodes = each-map (λ n k. record { live = k.live; place = same k.place; cost = tt; rows = each-map (λ r i. record { entries = each-map (λ e h. record { column = h.column; reached = h.reached }) r.entries i.entries; in_order = i.in_order }) (v.rows n) k.rows }) v.live t.nodes;
  columns = λ s. each-map (λ j h. record { once = h.once; stage = h.stage; in_order = h.in_order }) (v.columns s) (t.columns s);
  paths = each-map (λ s h. record { live = h.live; distinct = h.distinct }) v.scenarios t.paths;
  totals = t.totals;
}
  where
    same : {n : ℕ} → HasPlace v n → HasPlace (without_costs v) n
    same (is_first e) = is_first e
    same (is_below m e) = is_below m e

feasible-without_costs : (v : View) (x : ℕ → ℕ → ℚ) → Feasible v x → Feasible (without_costs v) x
feasible-without_costs v x f = each-map (λ n h. record { rows = h.rows; bounds = h.bounds }) v.live f

cost-without_costs : (v : View) (x : ℕ → ℕ → ℚ) → IsTree v → cost (without_costs v) x ≡ zero_ℚ
cost-without_costs v x t = cost-by_nodes (without_costs v) (tree-without_costs v t) x
    ∙ sum-ext _ (λ n. zero_ℚ) (λ n. by_ring (total v n ∷ []) (search terms depth 40) tt) v.live ∙ sum-zero v.live

pub infeasibility_shown : InfeasibilityShown
infeasibility_shown v y t s x f =
    let h : value (without_costs v) y ≤ℚ cost (without_costs v) x = weak_duality (without_costs v) x y (tree-without_costs v t) (feasible-without_costs v x f) s.good in
    let e : cost (without_costs v) x ≡ zero_ℚ = cost-without_costs v x t in
    not_le_of_lt_ℚ s.above (by_linear (value (without_costs v) y ∷ cost (without_costs v) x ∷ []) (fact h (equal e nothing)) (search terms depth 40) tt)
