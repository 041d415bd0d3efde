-- The program's costs are risks.
use Rattle.std.proofs.Common.{◌≡◌, ℕ, suc, ◌<◌, Bool, true, false, eqb, List, [], ◌∷◌, length, Option, Some, None, refl, sym, ap, ap₂, subst, ◌∙◌, arith}
use Rattle.std.proofs.lemmas.Bool.{eq-eqb, ne_eqb}
use Rattle.rationals.specs.Rational.{ℚ, zero_ℚ, one_ℚ, neg_ℚ, inv_ℚ, ◌+ℚ◌, ◌*ℚ◌, ◌-ℚ◌, ◌≤ℚ◌, ◌<ℚ◌, at_most, at_most_true, at_most_false, by_ring, by_eqs, by_linear, terms, le_refl_ℚ, lt_le_ℚ, lt_by, le_trans_ℚ, le_of_same_ℚ, le_add_ℚ, mul_mono_ℚ, mul_nonneg_ℚ, inv_nonneg_ℚ}
use Rattle.rationals.specs.Ring.Eqs.{done, by_eq}
use Rattle.rationals.specs.Ring.Given.{nothing, fact}
use Rattle.rationals.specs.Sums.{sum_ℚ}
use Rattle.rationals.specs.Choices.{pick}
use Rattle.rationals.specs.Sparse.{Entry, product, value_if}
use Rattle.scen_defs.specs.Lists.{Each}
use Rattle.scen_defs.specs.declared.program.Column.{Column}
use Rattle.scen_defs.specs.Program.{Scenario, Program, View, view_of, node_at}
use Rattle.scen_defs.specs.Flat.{along, node_cost, cost, Feasible}
use Rattle.scen_defs.specs.Valid.{Lives, Follows, FitsScenario, IsProgram}
use Rattle.scen_defs.proofs.SumLaws.{each-map, sum-same, sum-below}
use Rattle.edit_defs.proofs.Lists.{passes-within}
use Rattle.tail_risk.specs.TailRow.{h_column, u_column, path_costs, tail_row}
use Rattle.tail_risk.specs.TailProgram.{last_stage, rates_of}
use Rattle.tail_risk.specs.Risk.{scenario_cost, excess, mean_of, risk, ExtendsPoint, RiskIsAttained, RiskIsLeast}
use Rattle.tail_risk.specs.declared.rates.Rates.{Rates}
use Rattle.tail_risk.proofs.TailKeeps.{q}
use Rattle.tail_risk.proofs.RiskPaths.{leaf_of, leaf_in, product_same, scenario_path, scenario_leaf}
use Rattle.tail_risk.proofs.RiskPoints.{root_of, node_costs, tail_sum, feasible_up, feasible_down, last_down}

-- ---- how far a number is above 0
excess_nonneg : (z : ℚ) → zero_ℚ ≤ℚ excess z
excess_nonneg z = go (at_most z zero_ℚ) refl
  where
    go : (b : Bool) → at_most z zero_ℚ ≡ b → zero_ℚ ≤ℚ pick b zero_ℚ z
    go true e = le_refl_ℚ zero_ℚ
    go false e = lt_le_ℚ (at_most_false z zero_ℚ e)

excess_above : (z : ℚ) → z ≤ℚ excess z
excess_above z = go (at_most z zero_ℚ) refl
  where
    go : (b : Bool) → at_most z zero_ℚ ≡ b → z ≤ℚ pick b zero_ℚ z
    go true e = at_most_true z zero_ℚ e
    go false e = le_refl_ℚ z

excess_least : (z e : ℚ) → zero_ℚ ≤ℚ e → z ≤ℚ e → excess z ≤ℚ e
excess_least z e a b = go (at_most z zero_ℚ)
  where
    go : (t : Bool) → pick t zero_ℚ z ≤ℚ e
    go true = a
    go false = b

module _ (p : Program) (rates : Rates) (i : IsProgram p) where
  abbrev v : View
  v = view_of p

  abbrev u : View
  u = view_of (q p rates)

  abbrev stage : ℕ → ℕ
  stage n = (node_at p.nodes n).stage

  abbrev h_at : (ℕ → ℕ → ℚ) → ℕ → ℚ
  h_at y n = y n (h_column p)

  abbrev u_at : (ℕ → ℕ → ℚ) → ℕ → ℚ
  u_at y n = y n (u_column p)

  -- ---- what a path costs
  module _ (y : ℕ → ℕ → ℚ) where
    at_stage : (n s : ℕ) (b : Bool) → Lives p n → stage n ≡ s → eqb (last_stage p) s ≡ b
        → node_cost u y n ≡ rates.old *ℚ node_cost v y n +ℚ (value_if (eqb 0 s) (rates.h *ℚ h_at y n) +ℚ value_if b (rates.u *ℚ u_at y n))
    at_stage n s b l e k =
        node_costs p rates i y n l
        ∙ ap (λ t. rates.old *ℚ node_cost v y n +ℚ (value_if (eqb 0 t) (rates.h *ℚ h_at y n) +ℚ value_if (eqb (last_stage p) t) (rates.u *ℚ u_at y n))) e
        ∙ ap (λ c. rates.old *ℚ node_cost v y n +ℚ (value_if (eqb 0 s) (rates.h *ℚ h_at y n) +ℚ value_if c (rates.u *ℚ u_at y n))) k

    path_costs_are : (s : ℕ) (above : Option ℕ) (n : ℕ) (path : List ℕ) → Follows p s above (n ∷ path)
        → sum_ℚ (node_cost u y) (n ∷ path) ≡ rates.old *ℚ sum_ℚ (node_cost v y) (n ∷ path) +ℚ (value_if (eqb 0 s) (rates.h *ℚ h_at y n) +ℚ rates.u *ℚ u_at y (leaf_of n path))
    path_costs_are s above n [] f =
        let long : suc s ≡ length p.periods = f.3 in
        let here = at_stage n s true f.0 f.1 (eq-eqb (last_stage p) s (omega (arith, long))) in
        by_eqs (node_cost u y n ∷ rates.old ∷ node_cost v y n ∷ value_if (eqb 0 s) (rates.h *ℚ h_at y n) ∷ rates.u *ℚ u_at y n ∷ []) (by_eq one_ℚ here done) (search terms depth 60) tt
    path_costs_are s above n (m ∷ path) f =
        let below : (node_at p.nodes m).stage < length p.periods = (i.nodes m f.3.0).stage in
        let d : (node_at p.nodes m).stage ≡ suc s = f.3.1 in
        let here = at_stage n s false f.0 f.1 (ne_eqb (last_stage p) s (λ e. omega (arith, below, d, e))) in
        let rest = path_costs_are (suc s) (Some n) m path f.3
        ∙ ap (λ b. rates.old *ℚ sum_ℚ (node_cost v y) (m ∷ path) +ℚ (value_if b (rates.h *ℚ h_at y m) +ℚ rates.u *ℚ u_at y (leaf_of m path))) (ne_eqb 0 (suc s) (λ e. omega (arith, e))) in
        by_eqs (node_cost u y n ∷ rates.old ∷ node_cost v y n ∷ value_if (eqb 0 s) (rates.h *ℚ h_at y n) ∷ rates.u *ℚ u_at y (leaf_of m path) ∷ sum_ℚ (node_cost u y) (m ∷ path) ∷ sum_ℚ (node_cost v y) (m ∷ path) ∷ [])
        (by_eq one_ℚ here (by_eq one_ℚ rest done)) (search terms depth 60) tt

    scenario_costs : (c : Scenario) → FitsScenario p c → sum_ℚ (node_cost u y) c.path ≡ rates.old *ℚ sum_ℚ (node_cost v y) c.path +ℚ (rates.h *ℚ h_at y 0 +ℚ rates.u *ℚ u_at y (leaf_in c.path))
    scenario_costs c f = go c.path f.path
      where
        go : (path : List ℕ) → Follows p 0 None path → sum_ℚ (node_cost u y) path ≡ rates.old *ℚ sum_ℚ (node_cost v y) path +ℚ (rates.h *ℚ h_at y 0 +ℚ rates.u *ℚ u_at y (leaf_in path))
        go [] f = absurd (let some = i.periods in let none : 0 ≡ length p.periods = f in omega (arith, some, none))
        go (n ∷ path) f = path_costs_are 0 None n path f
            ∙ ap (λ m. rates.old *ℚ sum_ℚ (node_cost v y) (n ∷ path) +ℚ (rates.h *ℚ h_at y m +ℚ rates.u *ℚ u_at y (leaf_of n path))) (root_of p rates i n f.0 f.1)

    sums : (cs : List Scenario) → Each (FitsScenario p) cs
        → sum_ℚ (λ (c : Scenario). c.probability *ℚ sum_ℚ (node_cost u y) c.path) cs
        ≡ rates.old *ℚ sum_ℚ (λ (c : Scenario). c.probability *ℚ scenario_cost v y c) cs
        +ℚ (rates.h *ℚ h_at y 0 *ℚ sum_ℚ (λ (c : Scenario). c.probability) cs +ℚ rates.u *ℚ sum_ℚ (λ (c : Scenario). c.probability *ℚ u_at y (leaf_in c.path)) cs)
    sums [] f = by_ring (rates.old ∷ rates.h ∷ h_at y 0 ∷ rates.u ∷ []) (search terms depth 60) tt
    sums (c ∷ cs) f =
        by_eqs (c.probability ∷ rates.old ∷ rates.h ∷ h_at y 0 ∷ rates.u ∷ u_at y (leaf_in c.path) ∷ sum_ℚ (node_cost u y) c.path ∷ sum_ℚ (node_cost v y) c.path
        ∷ sum_ℚ (λ (c : Scenario). c.probability *ℚ sum_ℚ (node_cost u y) c.path) cs ∷ sum_ℚ (λ (c : Scenario). c.probability *ℚ scenario_cost v y c) cs
        ∷ sum_ℚ (λ (c : Scenario). c.probability) cs ∷ sum_ℚ (λ (c : Scenario). c.probability *ℚ u_at y (leaf_in c.path)) cs ∷ [])
        (by_eq c.probability (scenario_costs c f.0) (by_eq one_ℚ (sums cs f.1) done)) (search terms depth 80) tt

    costs_are : cost u y ≡ rates.old *ℚ mean_of (scenario_cost v y) v +ℚ (rates.h *ℚ h_at y 0 +ℚ rates.u *ℚ mean_of (λ c. u_at y (leaf_in c.path)) v)
    unfolding cost
    costs_are = sums p.scenarios i.scenarios
        ∙ ap (λ s. rates.old *ℚ mean_of (scenario_cost v y) v +ℚ (rates.h *ℚ h_at y 0 *ℚ s +ℚ rates.u *ℚ mean_of (λ c. u_at y (leaf_in c.path)) v)) i.certain
        ∙ by_ring (rates.old ∷ mean_of (scenario_cost v y) v ∷ rates.h ∷ h_at y 0 ∷ rates.u ∷ mean_of (λ c. u_at y (leaf_in c.path)) v ∷ []) (search terms depth 60) tt

  -- ---- the costs of points that agree on the old columns
  module _ (x y : ℕ → ℕ → ℚ) (same : (n j : ℕ) → j < length p.columns → y n j ≡ x n j) where
    node_same : (n : ℕ) → Lives p n → node_cost v y n ≡ node_cost v x n
    node_same n l = product_same (node_at p.nodes n).cost (y n) (x n) (each-map (λ (e : Entry) k. same n e.column (passes-within (λ (c : Column). eqb c.stage (stage n)) e.column p.columns k)) (node_at p.nodes n).cost (i.nodes n l).cost)

    path_same : (s : ℕ) (above : Option ℕ) (path : List ℕ) → Follows p s above path → sum_ℚ (node_cost v y) path ≡ sum_ℚ (node_cost v x) path
    path_same s above [] f = refl
    path_same s above (n ∷ path) f = ap₂ (λ a b. a +ℚ b) (node_same n f.0) (path_same (suc s) (Some n) path f.3)

    mean_same : (cs : List Scenario) → Each (FitsScenario p) cs → sum_ℚ (λ (c : Scenario). c.probability *ℚ scenario_cost v y c) cs ≡ sum_ℚ (λ (c : Scenario). c.probability *ℚ scenario_cost v x c) cs
    mean_same cs f = sum-same (λ (c : Scenario). c.probability *ℚ scenario_cost v y c) (λ (c : Scenario). c.probability *ℚ scenario_cost v x c) cs
        (each-map (λ c k. ap (λ z. c.probability *ℚ z) (path_same 0 None c.path k.path)) cs f)

  -- ---- the point that attains the risk
  module _ (x : ℕ → ℕ → ℚ) (h : ℚ) where
    abbrev gathered : ℕ → ℚ
    gathered n = product (path_costs p.nodes n) (along v x n)

    pub attains : ℕ → ℕ → ℚ
    attains n j = pick (eqb j (h_column p)) h (pick (eqb j (u_column p)) (excess (gathered n -ℚ h)) (x n j))

    agrees : (n j : ℕ) → j < length p.columns → attains n j ≡ x n j
    unfolding attains
    agrees n j k = ap₂ (λ a b. pick a h (pick b (excess (gathered n -ℚ h)) (x n j))) (ne_eqb j (h_column p) (λ e. omega (arith, e, k))) (ne_eqb j (u_column p) (λ e. omega (arith, e, k)))

    h_is : (n : ℕ) → attains n (h_column p) ≡ h
    unfolding attains
    h_is n = ap (λ a. pick a h (pick (eqb (h_column p) (u_column p)) (excess (gathered n -ℚ h)) (x n (h_column p)))) (eq-eqb (h_column p) (h_column p) refl)

    u_is : (n : ℕ) → attains n (u_column p) ≡ excess (gathered n -ℚ h)
    unfolding attains
    u_is n = ap₂ (λ a b. pick a h (pick b (excess (gathered n -ℚ h)) (x n (u_column p)))) (ne_eqb (u_column p) (h_column p) (λ e. omega (arith, e))) (eq-eqb (u_column p) (u_column p) refl)

    free : (n : ℕ) → Lives p n → stage n ≡ last_stage p → (zero_ℚ ≤ℚ attains n (u_column p)) × (zero_ℚ ≤ℚ product (tail_row p n).entries (along u attains n))
    free n l e =
        let above : gathered n -ℚ h ≤ℚ excess (gathered n -ℚ h) = excess_above (gathered n -ℚ h) in
        let enough : zero_ℚ ≤ℚ neg_ℚ (gathered n) +ℚ (h +ℚ excess (gathered n -ℚ h)) = by_linear (gathered n ∷ h ∷ excess (gathered n -ℚ h) ∷ []) (fact above nothing) (search terms depth 60) tt in (
          subst (λ z. zero_ℚ ≤ℚ z) (sym (u_is n)) (excess_nonneg (gathered n -ℚ h)),
          subst (λ z. zero_ℚ ≤ℚ z) (sym (tail_sum p rates i x attains agrees n l e ∙ ap₂ (λ a b. neg_ℚ (gathered n) +ℚ (a +ℚ b)) (h_is 0) (u_is n))) enough,
        )

    pub attains_feasible : Feasible v x → Feasible u attains
    attains_feasible f = feasible_up p rates i x attains agrees f free

    excess_same : (cs : List Scenario) → Each (FitsScenario p) cs
        → sum_ℚ (λ (c : Scenario). c.probability *ℚ u_at attains (leaf_in c.path)) cs ≡ sum_ℚ (λ (c : Scenario). c.probability *ℚ excess (scenario_cost v x c -ℚ h)) cs
    excess_same cs f = sum-same (λ (c : Scenario). c.probability *ℚ u_at attains (leaf_in c.path)) (λ (c : Scenario). c.probability *ℚ excess (scenario_cost v x c -ℚ h)) cs
        (each-map (λ c k. ap (λ z. c.probability *ℚ z) (u_is (leaf_in c.path) ∙ ap (λ z. excess (z -ℚ h)) (scenario_path p i x c k))) cs f)

    pub attains_cost : cost u attains ≡ rates.old *ℚ mean_of (scenario_cost v x) v +ℚ (rates.h *ℚ h +ℚ rates.u *ℚ mean_of (λ c. excess (scenario_cost v x c -ℚ h)) v)
    attains_cost = costs_are attains
        ∙ ap₂ (λ a b. rates.old *ℚ a +ℚ (rates.h *ℚ h_at attains 0 +ℚ rates.u *ℚ b)) (mean_same x attains agrees p.scenarios i.scenarios) (excess_same p.scenarios i.scenarios)
        ∙ ap (λ a. rates.old *ℚ mean_of (scenario_cost v x) v +ℚ (rates.h *ℚ a +ℚ rates.u *ℚ mean_of (λ c. excess (scenario_cost v x c -ℚ h)) v)) (h_is 0)

    pub attains_extends : ExtendsPoint p x h attains
    attains_extends = record { old = agrees; added = h_is 0 }

  -- ---- no point costs less
  module _ (y : ℕ → ℕ → ℚ) (feasible : Feasible u y) where
    itself : (n j : ℕ) → j < length p.columns → y n j ≡ y n j
    itself n j k = refl

    pub old_feasible : Feasible v y
    old_feasible = feasible_down p rates i y y itself feasible

    leaf_above : (c : Scenario) → FitsScenario p c → excess (scenario_cost v y c -ℚ h_at y 0) ≤ℚ u_at y (leaf_in c.path)
    leaf_above c f =
        let n : ℕ = leaf_in c.path in
        let l = scenario_leaf p i c f in
        let e : stage n ≡ last_stage p = (let d : suc (stage n) ≡ length p.periods = l.1 in omega (arith, d)) in
        let both = last_down p rates i y y itself feasible n l.0 e in
        let row : zero_ℚ ≤ℚ neg_ℚ (scenario_cost v y c) +ℚ (h_at y 0 +ℚ u_at y n) =
        subst (λ z. zero_ℚ ≤ℚ z) (tail_sum p rates i y y itself n l.0 e ∙ ap (λ z. neg_ℚ z +ℚ (h_at y 0 +ℚ u_at y n)) (scenario_path p i y c f)) both.1 in
        excess_least (scenario_cost v y c -ℚ h_at y 0) (u_at y n) both.0
        (by_linear (scenario_cost v y c ∷ h_at y 0 ∷ u_at y n ∷ []) (fact row nothing) (search terms depth 60) tt)

    pub least_cost : zero_ℚ ≤ℚ rates.u
        → rates.old *ℚ mean_of (scenario_cost v y) v +ℚ (rates.h *ℚ h_at y 0 +ℚ rates.u *ℚ mean_of (λ c. excess (scenario_cost v y c -ℚ h_at y 0)) v) ≤ℚ cost u y
    least_cost k =
        let more : mean_of (λ c. excess (scenario_cost v y c -ℚ h_at y 0)) v ≤ℚ mean_of (λ c. u_at y (leaf_in c.path)) v =
        sum-below (λ (c : Scenario). c.probability *ℚ excess (scenario_cost v y c -ℚ h_at y 0)) (λ (c : Scenario). c.probability *ℚ u_at y (leaf_in c.path)) p.scenarios
        (each-map (λ c f. mul_mono_ℚ (lt_le_ℚ f.positive) (leaf_above c f)) p.scenarios i.scenarios) in
        le_trans_ℚ
        (le_add_ℚ (rates.old *ℚ mean_of (scenario_cost v y) v) (rates.old *ℚ mean_of (scenario_cost v y) v) (rates.h *ℚ h_at y 0 +ℚ rates.u *ℚ mean_of (λ c. excess (scenario_cost v y c -ℚ h_at y 0)) v)
        (rates.h *ℚ h_at y 0 +ℚ rates.u *ℚ mean_of (λ c. u_at y (leaf_in c.path)) v) (le_refl_ℚ (rates.old *ℚ mean_of (scenario_cost v y) v))
        (le_add_ℚ (rates.h *ℚ h_at y 0) (rates.h *ℚ h_at y 0) (rates.u *ℚ mean_of (λ c. excess (scenario_cost v y c -ℚ h_at y 0)) v) (rates.u *ℚ mean_of (λ c. u_at y (leaf_in c.path)) v)
        (le_refl_ℚ (rates.h *ℚ h_at y 0)) (mul_mono_ℚ k more)))
        (le_of_same_ℚ (sym (costs_are y)))

-- ---- by level and weight
as_risk : (w m h r e : ℚ) → (one_ℚ -ℚ w) *ℚ m +ℚ (w *ℚ h +ℚ (w *ℚ r) *ℚ e) ≡ (one_ℚ -ℚ w) *ℚ m +ℚ w *ℚ (h +ℚ (one_ℚ *ℚ r) *ℚ e)
as_risk w m h r e = by_ring (w ∷ m ∷ h ∷ r ∷ e ∷ []) (search terms depth 60) tt

module _ (p : Program) (a w : ℚ) (x : ℕ → ℕ → ℚ) (h : ℚ) where
  pub risk_is : (rates_of a w).old *ℚ mean_of (scenario_cost (view_of p) x) (view_of p)
      +ℚ ((rates_of a w).h *ℚ h +ℚ (rates_of a w).u *ℚ mean_of (λ c. excess (scenario_cost (view_of p) x c -ℚ h)) (view_of p)) ≡ risk (view_of p) a w x h
  risk_is = as_risk w (mean_of (scenario_cost (view_of p) x) (view_of p)) h (inv_ℚ (one_ℚ -ℚ a)) (mean_of (λ c. excess (scenario_cost (view_of p) x c -ℚ h)) (view_of p))

pub risk_is_attained : RiskIsAttained
risk_is_attained p a w i x h f =
    let rates : Rates = rates_of a w in
    (attains p rates i x h, attains_extends p rates i x h, attains_feasible p rates i x h f, attains_cost p rates i x h ∙ risk_is p a w x h)

rest_above : (a : ℚ) → a <ℚ one_ℚ → zero_ℚ <ℚ one_ℚ -ℚ a
rest_above a h = lt_by h (λ k. by_linear (a ∷ []) (fact k nothing) (search terms depth 40) tt)

pub risk_is_least : RiskIsLeast
risk_is_least p a w i below above y f =
    let rates : Rates = rates_of a w in (
      old_feasible p rates i y f,
      subst (λ z. z ≤ℚ cost (view_of (q p rates)) y) (risk_is p a w y (y 0 (h_column p)))
          (least_cost p rates i y f (mul_nonneg_ℚ w (inv_ℚ (one_ℚ -ℚ a)) above (inv_nonneg_ℚ (rest_above a below)))),
    )
