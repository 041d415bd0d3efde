-- What a point decides along the path of a scenario, and what lower ends by scenario come to.
use Rattle.std.proofs.Common.{◌≡◌, ℕ, zero, suc, ◌+◌, ◌-◌, ◌<◌, ◌≤◌, true, List, [], ◌∷◌, length, get_or, map, Option, Some, None, refl, sym, ap, ap₂, subst, ◌∙◌, arith}
use Rattle.rationals.specs.Rational.{ℚ, zero_ℚ, ◌+ℚ◌, ◌*ℚ◌, ◌≤ℚ◌, by_ring, terms, le_refl_ℚ, le_of_same_ℚ, le_trans_ℚ, le_add_ℚ, lt_le_ℚ, mul_mono_ℚ}
use Rattle.rationals.specs.Sums.{sum_ℚ, dot}
use Rattle.rationals.specs.Intervals.{Between}
use Rattle.rationals.specs.Sparse.{Entry, product}
use Rattle.scen_defs.specs.declared.program.NodeRow.{NodeRow}
use Rattle.scen_defs.specs.Lists.{Each, passes_at}
use Rattle.scen_defs.specs.Program.{Node, Scenario, Program, View, view_of, is_live, node_at, or_root}
use Rattle.scen_defs.specs.Flat.{up, along, node_cost, cost, Feasible, FeasibleAt}
use Rattle.scen_defs.specs.Valid.{Lives, Follows, FitsScenario}
use Rattle.scen_defs.proofs.SumLaws.{each-map, each-once, sum-ext}
use Rattle.scen_defs.proofs.Valid.{each-place, once-passes}
use Rattle.value_programs.specs.Line.{line_path, stage_before}
use Rattle.value_programs.specs.OneScenario.{scenario_program, path_nodes}
use Rattle.value_laws.specs.Knowing.{values_on, ServesScenario, FeasiblePointsServe, AreLowerEnds, ExpectedEndsAreLower}

-- the node of stage k on a path
abbrev on : List ℕ → ℕ → ℕ
on path k = get_or path k 0

-- ---- the nodes along a path
path_long : (nodes : List (Option Node)) (s : ℕ) (path : List ℕ) → length (path_nodes nodes s path) ≡ length path
path_long nodes s [] = refl
path_long nodes s (n ∷ path) = ap suc (path_long nodes (suc s) path)

path_node : (nodes : List (Option Node)) (s : ℕ) (path : List ℕ) (k : ℕ) → passes_at is_live k (path_nodes nodes s path) ≡ true → k < length path
path_node nodes s [] k h = absurd (cc)
path_node nodes s (n ∷ path) zero h = omega arith
path_node nodes s (n ∷ path) (suc k) h = let l = path_node nodes (suc s) path k h in omega (arith, l)

node_there : (nodes : List (Option Node)) (s : ℕ) (path : List ℕ) (k : ℕ) → k < length path
    → node_at (path_nodes nodes s path) k ≡ record (node_at nodes (on path k)) { parent = stage_before (s + k) }
node_there nodes s [] k h = absurd (omega (arith, h))
node_there nodes s (n ∷ path) zero h = ap (λ m. let x : Node = record (node_at nodes n) { parent = stage_before m } in x) (omega arith)
node_there nodes s (n ∷ path) (suc k) h =
    node_there nodes (suc s) path k (omega (arith, h)) ∙ ap (λ m. let x : Node = record (node_at nodes (on path k)) { parent = stage_before m } in x) (omega arith)

-- ---- the path in the program
stands : (p : Program) (s : ℕ) (above : Option ℕ) (path : List ℕ) → Follows p s above path → (k : ℕ) → k < length path
    → Lives p (on path k) × ((node_at p.nodes (on path k)).stage ≡ s + k)
stands p s above [] f k h = absurd (omega (arith, h))
stands p s above (n ∷ path) f zero h = (f.0, f.1 ∙ omega arith)
stands p s above (n ∷ path) f (suc k) h = let r = stands p (suc s) (Some n) path f.3 k (omega (arith, h)) in (r.0, r.1 ∙ omega arith)

parent_on : (p : Program) (s : ℕ) (above : Option ℕ) (path : List ℕ) → Follows p s above path → (k : ℕ) → suc k < length path
    → (node_at p.nodes (on path (suc k))).parent ≡ Some (on path k)
parent_on p s above [] f k h = absurd (omega (arith, h))
parent_on p s above (n ∷ []) f k h = absurd (omega (arith, h))
parent_on p s above (n ∷ m ∷ path) f zero h = f.3.2
parent_on p s above (n ∷ m ∷ path) f (suc k) h = parent_on p (suc s) (Some n) (m ∷ path) f.3 k (omega (arith, h))

before_is : (m : ℕ) → or_root (stage_before m) ≡ m - 1
before_is zero = omega arith
before_is (suc m) = omega arith

-- ---- sums over a line are sums over the path
line_sum : (f g : ℕ → ℚ) (s : ℕ) (path : List ℕ) → ((k : ℕ) → k < length path → g (s + k) ≡ f (on path k)) → sum_ℚ g (line_path s (length path)) ≡ sum_ℚ f path
line_sum f g s [] h = refl
line_sum f g s (n ∷ path) h = ap₂ ◌+ℚ◌
    (ap g (let e : s ≡ s + 0 = omega arith in e) ∙ h 0 (omega arith))
    (line_sum f g (suc s) path (λ k l. ap g (let e : suc s + k ≡ s + suc k = omega arith in e) ∙ h (suc k) (omega (arith, l))))

module _ (p : Program) (c : Scenario) (f : FitsScenario p c) (x : ℕ → ℕ → ℚ) where
  abbrev v : View
  v = view_of p

  abbrev q : Program
  q = scenario_program p c

  abbrev u : View
  u = view_of q

  abbrev y : ℕ → ℕ → ℚ
  y = values_on c.path x

  node : (k : ℕ) → k < length c.path → node_at q.nodes k ≡ record (node_at p.nodes (on c.path k)) { parent = stage_before k }
  node k h = node_there p.nodes 0 c.path k h ∙ ap (λ m. let z : Node = record (node_at p.nodes (on c.path k)) { parent = stage_before m } in z) (omega arith)

  stage_here : (k : ℕ) → k < length c.path → v.stage (on c.path k) ≡ k
  stage_here k h = (stands p 0 None c.path f.path k h).1 ∙ omega arith

  stage_there : (k : ℕ) → k < length c.path → u.stage k ≡ k
  stage_there k h = ap (λ (n : Node). n.stage) (node k h) ∙ stage_here k h

  up_there : (d k : ℕ) → d ≤ k → k < length c.path → up u d k ≡ k - d
  up_there zero k h l = omega arith
  up_there (suc d) k h l =
      ap u.parent (up_there d k (omega (arith, h)) l) ∙ ap (λ (n : Node). or_root n.parent) (node (k - d) (omega (arith, l))) ∙ before_is (k - d) ∙ omega arith

  up_here : (d k : ℕ) → d ≤ k → k < length c.path → up v d (on c.path k) ≡ on c.path (k - d)
  up_here zero k h l = ap (on c.path) (let e : k ≡ k - 0 = omega arith in e)
  up_here (suc d) k h l =
      let e : k - d ≡ suc (k - suc d) = omega (arith, h) in
      ap v.parent (up_here d k (omega (arith, h)) l) ∙ ap (λ m. v.parent (on c.path m)) e ∙ ap or_root (parent_on p 0 None c.path f.path (k - suc d) (omega (arith, h, l)))

  -- ---- the same values along the path
  values_same : (k j : ℕ) → k < length c.path → along u y k j ≡ along v x (on c.path k) j
  values_same k j h =
      let t : ℕ = v.stage_of j in
      ap (λ s. x (on c.path (up u (s - t) k)) j) (stage_there k h) ∙ ap (λ m. x (on c.path m) j) (up_there (k - t) k (omega arith) h)
      ∙ sym (ap (λ s. x (up v (s - t) (on c.path k)) j) (stage_here k h) ∙ ap (λ n. x n j) (up_here (k - t) k (omega arith) h))

  product_same : (k : ℕ) → k < length c.path → (form : List Entry) → product form (along v x (on c.path k)) ≡ product form (along u y k)
  product_same k h form = sum-ext (λ (e : Entry). e.value *ℚ along v x (on c.path k) e.column) (λ (e : Entry). e.value *ℚ along u y k e.column)
      (λ (e : Entry). ap (λ z. e.value *ℚ z) (sym (values_same k e.column h))) form

  node_feasible : Feasible v x → (k : ℕ) → k < length c.path → FeasibleAt u y k
  node_feasible feasible k h =
      let n : ℕ = on c.path k in
      let here : FeasibleAt v x n = each-once (FeasibleAt v x) n v.live (once-passes is_live n p.nodes (stands p 0 None c.path f.path k h).0) feasible in
      record {
        rows = subst (λ (z : Node). Each (λ (r : NodeRow). Between r.low r.high (product r.entries (along u y k))) z.rows) (sym (node k h))
            (each-map (λ (r : NodeRow) b. subst (Between r.low r.high) (product_same k h r.entries) b) (v.rows n) here.rows);
        bounds = subst (λ s. Each (λ j. Between (v.lower j) (v.upper j) (x n j)) (v.columns s)) (stage_here k h ∙ sym (stage_there k h)) here.bounds;
      }

  path_cost : cost u y ≡ sum_ℚ (node_cost v x) c.path
  unfolding cost
  path_cost =
      by_ring (sum_ℚ (node_cost u y) (line_path 0 (length q.nodes)) ∷ []) (search terms depth 40) tt
      ∙ ap (λ n. sum_ℚ (node_cost u y) (line_path 0 n)) (path_long p.nodes 0 c.path)
      ∙ line_sum (node_cost v x) (node_cost u y) 0 c.path (λ k h. ap (node_cost u y) (let e : 0 + k ≡ k = omega arith in e) ∙ ap (λ (n : Node). product n.cost (y k)) (node k h))

  pub serves : Feasible v x → ServesScenario p x c
  serves feasible = record {
    feasible = each-place (FeasibleAt u y) is_live q.nodes (λ k l. node_feasible feasible k (path_node p.nodes 0 c.path k l));
    costs = path_cost;
  }

pub feasible_points_serve : FeasiblePointsServe
feasible_points_serve p x i feasible = each-map (λ c f. serves p c f x feasible) p.scenarios i.scenarios

-- ---- lower ends
module _ (p : Program) (x : ℕ → ℕ → ℚ) where
  ends_below : (cs : List Scenario) (ends : List ℚ) → Each (FitsScenario p) cs → Each (ServesScenario p x) cs → AreLowerEnds p cs ends
      → dot (map (λ (c : Scenario). c.probability) cs) ends ≤ℚ sum_ℚ (λ (c : Scenario). c.probability *ℚ sum_ℚ (node_cost (view_of p) x) c.path) cs
  ends_below [] [] f s h = le_refl_ℚ zero_ℚ
  ends_below [] (end ∷ ends) f s h = absurd h
  ends_below (c ∷ cs) [] f s h = absurd h
  ends_below (c ∷ cs) (end ∷ ends) f s h = le_add_ℚ _ _ _ _
      (mul_mono_ℚ (lt_le_ℚ f.0.positive) (le_trans_ℚ (h.0 (values_on c.path x) s.0.feasible) (le_of_same_ℚ s.0.costs)))
      (ends_below cs ends f.1 s.1 h.1)

pub expected_ends_are_lower : ExpectedEndsAreLower
unfolding cost
expected_ends_are_lower p ends i h x feasible = ends_below p x p.scenarios ends i.scenarios (feasible_points_serve p x i feasible) h
