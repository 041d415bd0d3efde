-- Paths of scenarios: what the costs along them come to.
use Rattle.std.proofs.Common.{◌≡◌, ℕ, zero, suc, ◌-◌, ◌≤◌, true, eqb, List, [], ◌∷◌, length, Option, Some, None, refl, sym, ap, ◌∙◌, arith, eqb-true}
use Rattle.rationals.specs.Rational.{ℚ, one_ℚ, ◌+ℚ◌, ◌*ℚ◌, by_eqs, terms, add_zero_ℚ}
use Rattle.rationals.specs.Ring.Eqs.{done, by_eq}
use Rattle.rationals.specs.Sums.{sum_ℚ}
use Rattle.rationals.specs.Sparse.{Entry, product}
use Rattle.scen_defs.specs.Lists.{Each, passes_at}
use Rattle.scen_defs.specs.declared.program.Column.{Column}
use Rattle.scen_defs.specs.Program.{Node, Scenario, Program, View, view_of, node_at, column_at, or_root}
use Rattle.scen_defs.specs.Flat.{up, along, node_cost}
use Rattle.scen_defs.specs.Valid.{Lives, Follows, FitsScenario, IsProgram}
use Rattle.scen_defs.proofs.SumLaws.{each-map, sum-same}
use Rattle.scen_defs.proofs.Subtrees.{no}
use Rattle.tail_risk.specs.TailRow.{merged, costs_up, path_costs}
use Rattle.tail_risk.proofs.Merges.{merged_product}
use Rattle.tail_risk.proofs.PathLaws.{up_product}

-- the last node of a path
abbrev pub leaf_of : ℕ → List ℕ → ℕ
leaf_of n [] = n
leaf_of n (m ∷ path) = leaf_of m path

abbrev pub leaf_in : List ℕ → ℕ
leaf_in [] = 0
leaf_in (n ∷ path) = leaf_of n path

pub product_same : (f : List Entry) (a b : ℕ → ℚ) → Each (λ (e : Entry). a e.column ≡ b e.column) f → product f a ≡ product f b
product_same f a b h = sum-same (λ (e : Entry). e.value *ℚ a e.column) (λ (e : Entry). e.value *ℚ b e.column) f (each-map (λ e k. ap (λ v. e.value *ℚ v) k) f h)

column_stage : (s j : ℕ) (cs : List Column) → passes_at (λ (c : Column). eqb c.stage s) j cs ≡ true → (column_at cs j).stage ≡ s
column_stage s j [] h = absurd (no refl h)
column_stage s zero (c ∷ cs) h = eqb-true c.stage s h
column_stage s (suc j) (c ∷ cs) h = column_stage s j cs h

module _ (p : Program) (i : IsProgram p) where
  abbrev v : View
  v = view_of p

  abbrev at : ℕ → Node
  at n = node_at p.nodes n

  -- ---- the leaf lives, and is of the last stage
  pub leaf_lives : (s : ℕ) (above : Option ℕ) (n : ℕ) (path : List ℕ) → Follows p s above (n ∷ path) → Lives p (leaf_of n path) × (suc (at (leaf_of n path)).stage ≡ length p.periods)
  leaf_lives s above n [] f = (f.0, (let e : (at n).stage ≡ s = f.1 in let d : suc s ≡ length p.periods = f.3 in omega (arith, e, d)))
  leaf_lives s above n (m ∷ path) f = leaf_lives (suc s) (Some n) m path f.3

  -- up from the leaf to a node of the path
  pub up_from_leaf : (s : ℕ) (above : Option ℕ) (n : ℕ) (path : List ℕ) → Follows p s above (n ∷ path) → (s ≤ (at (leaf_of n path)).stage) × (up v ((at (leaf_of n path)).stage - s) (leaf_of n path) ≡ n)
  up_from_leaf s above n [] f =
      let e : (at n).stage ≡ s = f.1 in
      (omega (arith, e), ap (λ k. up v k n) (let z : (at n).stage - s ≡ 0 = omega (arith, e) in z))
  up_from_leaf s above n (m ∷ path) f =
      let rest = up_from_leaf (suc s) (Some n) m path f.3 in
      let l : suc s ≤ (at (leaf_of m path)).stage = rest.0 in (
        omega (arith, l),
        ap (λ k. up v k (leaf_of m path)) (let z : (at (leaf_of m path)).stage - s ≡ suc ((at (leaf_of m path)).stage - suc s) = omega (arith, l) in z)
            ∙ ap v.parent rest.1 ∙ ap or_root (let q : (at m).parent ≡ Some n = f.3.2 in q),
      )

  -- ---- what is gathered up to a node
  module _ (z : ℕ → ℚ) where
    gathered_first : (n : ℕ) → (at n).stage ≡ 0 → product (path_costs p.nodes n) z ≡ product (at n).cost z
    gathered_first n e = ap (λ k. product (costs_up p.nodes [] (suc k) n) z) e ∙ merged_product z (at n).cost [] ∙ add_zero_ℚ (product (at n).cost z)

    gathered_next : (m n : ℕ) → (at m).parent ≡ Some n → (at m).stage ≡ suc (at n).stage → product (path_costs p.nodes m) z ≡ product (at m).cost z +ℚ product (path_costs p.nodes n) z
    gathered_next m n e h =
        ap (λ k. product (costs_up p.nodes (merged (at m).cost []) k (or_root (at m).parent)) z) h
        ∙ ap (λ k. product (costs_up p.nodes (merged (at m).cost []) (suc (at n).stage) (or_root k)) z) e
        ∙ up_product p.nodes z (merged (at m).cost []) (suc (at n).stage) n
        ∙ ap (λ s. s +ℚ product (path_costs p.nodes n) z) (merged_product z (at m).cost [] ∙ add_zero_ℚ (product (at m).cost z))

    gathered : (s : ℕ) (above : Option ℕ) (n : ℕ) (path : List ℕ) → Follows p s above (n ∷ path)
        → product (path_costs p.nodes (leaf_of n path)) z ≡ product (path_costs p.nodes n) z +ℚ sum_ℚ (λ m. product (at m).cost z) path
    gathered s above n [] f = sym (add_zero_ℚ (product (path_costs p.nodes n) z))
    gathered s above n (m ∷ path) f =
        let rest = gathered (suc s) (Some n) m path f.3 in
        let e : (at n).stage ≡ s = f.1 in
        let d : (at m).stage ≡ suc s = f.3.1 in
        let step = gathered_next m n f.3.2 (omega (arith, e, d)) in
        by_eqs (product (path_costs p.nodes (leaf_of m path)) z ∷ product (path_costs p.nodes m) z ∷ product (path_costs p.nodes n) z ∷ product (at m).cost z ∷ sum_ℚ (λ m. product (at m).cost z) path ∷ [])
        (by_eq one_ℚ rest (by_eq one_ℚ step done)) (search terms depth 60) tt

  -- ---- and with the values along the leaf's path
  module _ (x : ℕ → ℕ → ℚ) where
    own_values : (leaf s n : ℕ) → (at n).stage ≡ s → up v ((at leaf).stage - s) leaf ≡ n → Lives p n → product (at n).cost (along v x leaf) ≡ node_cost v x n
    own_values leaf s n e u l = product_same (at n).cost (along v x leaf) (x n) (each-map (λ (entry : Entry) k.
        let c : (column_at p.columns entry.column).stage ≡ (at n).stage = column_stage (at n).stage entry.column p.columns k in
        ap (λ m. x m entry.column) (ap (λ t. up v ((at leaf).stage - t) leaf) (c ∙ e) ∙ u)) (at n).cost (i.nodes n l).cost)

    own_first : (s : ℕ) (above : Option ℕ) (n : ℕ) (path : List ℕ) (leaf : ℕ) → leaf ≡ leaf_of n path → Follows p s above (n ∷ path) → product (at n).cost (along v x leaf) ≡ node_cost v x n
    own_first s above n path leaf same f = own_values leaf s n f.1 (ap (λ k. up v ((at k).stage - s) k) same ∙ (up_from_leaf s above n path f).1) f.0

    each_own : (s : ℕ) (above : Option ℕ) (n : ℕ) (path : List ℕ) (leaf : ℕ) → leaf ≡ leaf_of n path → Follows p s above (n ∷ path) → Each (λ m. product (at m).cost (along v x leaf) ≡ node_cost v x m) (n ∷ path)
    each_own s above n [] leaf same f = (own_first s above n [] leaf same f, tt)
    each_own s above n (m ∷ path) leaf same f = (own_first s above n (m ∷ path) leaf same f, each_own (suc s) (Some n) m path leaf same f.3)

    path_is : (path : List ℕ) → Follows p 0 None path → product (path_costs p.nodes (leaf_in path)) (along v x (leaf_in path)) ≡ sum_ℚ (node_cost v x) path
    path_is [] f = absurd (let some = i.periods in let none : 0 ≡ length p.periods = f in omega (arith, some, none))
    path_is (n ∷ path) f =
        let leaf : ℕ = leaf_of n path in
        gathered (along v x leaf) 0 None n path f ∙ ap (λ t. t +ℚ sum_ℚ (λ m. product (at m).cost (along v x leaf)) path) (gathered_first (along v x leaf) n f.1)
        ∙ sum-same (λ m. product (at m).cost (along v x leaf)) (node_cost v x) (n ∷ path) (each_own 0 None n path leaf refl f)

    -- the costs of a scenario's path are its cost
    pub scenario_path : (c : Scenario) → FitsScenario p c → product (path_costs p.nodes (leaf_in c.path)) (along v x (leaf_in c.path)) ≡ sum_ℚ (node_cost v x) c.path
    scenario_path c f = path_is c.path f.path

  pub scenario_leaf : (c : Scenario) → FitsScenario p c → Lives p (leaf_in c.path) × (suc (at (leaf_in c.path)).stage ≡ length p.periods)
  scenario_leaf c f = go c.path f.path
    where
      go : (path : List ℕ) → Follows p 0 None path → Lives p (leaf_in path) × (suc (at (leaf_in path)).stage ≡ length p.periods)
      go [] f = absurd (let some = i.periods in let none : 0 ≡ length p.periods = f in omega (arith, some, none))
      go (n ∷ path) f = leaf_lives 0 None n path f
