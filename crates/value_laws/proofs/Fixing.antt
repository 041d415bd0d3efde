-- Programs whose decisions of the first period are fixed.
use Rattle.std.proofs.Common.{◌≡◌, ℕ, zero, suc, ◌+◌, ◌-◌, Bool, true, false, eqb, List, [], ◌∷◌, length, None, refl, sym, ap, subst, ◌∙◌, arith, eqb-true}
use Rattle.rationals.specs.Rational.{ℚ, one_ℚ, ◌*ℚ◌, le_antisym_ℚ, le_of_same_ℚ, le_trans_ℚ, zero_lt_one_ℚ, ne_of_gt_ℚ}
use Rattle.rationals.specs.Sums.{sum_ℚ}
use Rattle.rationals.specs.Choices.{pick}
use Rattle.rationals.specs.Intervals.{Between}
use Rattle.rationals.specs.Sparse.{Entry, product}
use Rattle.scen_defs.specs.declared.program.Column.{Column}
use Rattle.scen_defs.specs.declared.program.NodeRow.{NodeRow}
use Rattle.scen_defs.specs.Lists.{Each, passes_at, places}
use Rattle.scen_defs.specs.Values.{At, at}
use Rattle.scen_defs.specs.Program.{Scenario, Program, View, view_of, is_live, node_at, column_at}
use Rattle.scen_defs.specs.Flat.{up, along, cost, FeasibleAt}
use Rattle.scen_defs.specs.Valid.{Lives, HasParent, Follows, FitsScenario, IsProgram}
use Rattle.scen_defs.proofs.SumLaws.{each-map, each-both, each-once, sum-ext}
use Rattle.scen_defs.proofs.Valid.{each-place, once-passes}
use Rattle.value_programs.specs.Fixed.{fixed_program, held_at, held_from}
use Rattle.value_laws.specs.Fixing.{StartsWithin, FeasiblePointsStartWithin, FixedPointsAreFeasible, FixingKeepsLowerEnds}

-- ---- node 0
record Starts (p : Program) (n : ℕ) : Type 0 where
  live : Lives p n
  stage : (node_at p.nodes n).stage ≡ 0

starts : (p : Program) → IsProgram p → Starts p 0
starts p i = by_scenarios p.scenarios i.scenarios i.certain
  where
    by_path : (path : List ℕ) → Follows p 0 None path → Starts p 0
    by_path [] f = absurd (let some = i.periods in let none : 0 ≡ length p.periods = f in omega (arith, some, none))
    by_path (n ∷ path) f =
        let first : (n ≡ 0) × ((node_at p.nodes n).stage ≡ 0) = subst (HasParent p n (node_at p.nodes n).stage) f.2 (i.nodes n f.0).parent in
        subst (Starts p) first.0 (record { live = f.0; stage = f.1 })

    by_scenarios : (cs : List Scenario) → Each (FitsScenario p) cs → sum_ℚ (λ (c : Scenario). c.probability) cs ≡ one_ℚ → Starts p 0
    by_scenarios [] f e = absurd (ne_of_gt_ℚ zero_lt_one_ℚ (sym e))
    by_scenarios (c ∷ cs) f e = by_path c.path f.0.path

pub feasible_points_start_within : FeasiblePointsStartWithin
feasible_points_start_within p q values i same feasible =
    let u : View = view_of q in
    let first : Starts q 0 = starts q i in
    let here : FeasibleAt u (at values) 0 = each-once (FeasibleAt u (at values)) 0 u.live (once-passes is_live 0 q.nodes first.live) feasible in
    subst (λ (cs : List Column). Each (λ j. Between (column_at cs j).lower (column_at cs j).upper (at values 0 j)) (places (λ (c : Column). eqb c.stage 0) 0 cs)) same
    (subst (λ s. Each (λ j. Between (u.lower j) (u.upper j) (at values 0 j)) (u.columns s)) first.stage here.bounds)

-- ---- columns that are held
module _ (values : List At) where
  held_stage : (m : ℕ) (c : Column) → (pick (eqb c.stage 0) (held_at values m c) c).stage ≡ c.stage
  held_stage m c = go (eqb c.stage 0)
    where
      go : (b : Bool) → (pick b (held_at values m c) c).stage ≡ c.stage
      go true = refl
      go false = refl

  stage_same : (m : ℕ) (cs : List Column) (j : ℕ) → (column_at (held_from values m cs) j).stage ≡ (column_at cs j).stage
  stage_same m [] j = refl
  stage_same m (c ∷ cs) zero = held_stage m c
  stage_same m (c ∷ cs) (suc j) = stage_same (suc m) cs j

  places_same : (s m k : ℕ) (cs : List Column) → places (λ (c : Column). eqb c.stage s) k (held_from values m cs) ≡ places (λ (c : Column). eqb c.stage s) k cs
  places_same s m k [] = refl
  places_same s m k (c ∷ cs) =
      ap (λ t. elim (eqb t s) [ true ↦ k ∷ places (λ (c : Column). eqb c.stage s) (suc k) (held_from values (suc m) cs) | false ↦ places (λ (c : Column). eqb c.stage s) (suc k) (held_from values (suc m) cs) ]) (held_stage m c)
      ∙ ap (λ (l : List ℕ). elim (eqb c.stage s) [ true ↦ k ∷ l | false ↦ l ]) (places_same s (suc m) (suc k) cs)

  -- what lies in the bounds of a column that is held lies in those that it had, where its value does
  let_go : (s m : ℕ) (cs : List Column) (j : ℕ) (z : ℚ) → passes_at (λ (c : Column). eqb c.stage s) j cs ≡ true
      → (s ≡ 0 → Between (column_at cs j).lower (column_at cs j).upper (at values 0 (m + j)))
      → Between (column_at (held_from values m cs) j).lower (column_at (held_from values m cs) j).upper z → Between (column_at cs j).lower (column_at cs j).upper z
  let_go s m [] j z h w b = absurd (cc)
  let_go s m (c ∷ cs) zero z h w b = go (eqb c.stage 0) refl b
    where
      go : (t : Bool) → eqb c.stage 0 ≡ t → Between (pick t (held_at values m c) c).lower (pick t (held_at values m c) c).upper z → Between c.lower c.upper z
      go true e b = subst (Between c.lower c.upper) (ap (at values 0) (let k : m + 0 ≡ m = omega arith in k) ∙ le_antisym_ℚ b.above b.below) (w (sym (eqb-true c.stage s h) ∙ eqb-true c.stage 0 e))
      go false e b = b
  let_go s m (c ∷ cs) (suc j) z h w b =
      let_go s (suc m) cs j z h (λ e. subst (λ k. Between (column_at cs j).lower (column_at cs j).upper (at values 0 k)) (let k : m + suc j ≡ suc m + j = omega arith in k) (w e)) b

module _ (p : Program) (values : List At) (starts : StartsWithin p values) (x : ℕ → ℕ → ℚ) where
  abbrev v : View
  v = view_of p

  abbrev u : View
  u = view_of (fixed_program p values)

  up_same : (k n : ℕ) → up u k n ≡ up v k n
  up_same zero n = refl
  up_same (suc k) n = ap v.parent (up_same k n)

  along_same : (n j : ℕ) → along u x n j ≡ along v x n j
  along_same n j = ap (λ s. x (up u (v.stage n - s) n) j) (stage_same values 0 p.columns j) ∙ ap (λ m. x m j) (up_same (v.stage n - v.stage_of j) n)

  product_same : (n : ℕ) (form : List Entry) → product form (along u x n) ≡ product form (along v x n)
  product_same n form = sum-ext (λ (e : Entry). e.value *ℚ along u x n e.column) (λ (e : Entry). e.value *ℚ along v x n e.column)
      (λ (e : Entry). ap (λ z. e.value *ℚ z) (along_same n e.column)) form

  bound : (n s j : ℕ) → passes_at (λ (c : Column). eqb c.stage s) j p.columns ≡ true → Between (u.lower j) (u.upper j) (x n j) → Between (v.lower j) (v.upper j) (x n j)
  bound n s j h b = let_go values s 0 p.columns j (x n j) h (λ e. subst (λ k. Between (v.lower j) (v.upper j) (at values 0 k)) (let k : j ≡ 0 + j = omega arith in k)
      (each-once (λ j. Between (v.lower j) (v.upper j) (at values 0 j)) j (v.columns 0)
      (once-passes (λ (c : Column). eqb c.stage 0) j p.columns (subst (λ s. passes_at (λ (c : Column). eqb c.stage s) j p.columns ≡ true) e h)) starts)) b

  node_feasible : (n : ℕ) → FeasibleAt u x n → FeasibleAt v x n
  node_feasible n h = record {
    rows = each-map (λ (r : NodeRow) b. subst (Between r.low r.high) (product_same n r.entries) b) (v.rows n) h.rows;
    bounds = each-both (λ j k b. bound n (v.stage n) j k b) (v.columns (v.stage n))
        (each-place (λ j. passes_at (λ (c : Column). eqb c.stage (v.stage n)) j p.columns ≡ true) (λ (c : Column). eqb c.stage (v.stage n)) p.columns (λ j k. k))
        (subst (Each (λ j. Between (u.lower j) (u.upper j) (x n j))) (places_same values (v.stage n) 0 0 p.columns) h.bounds);
  }

  cost_same : cost u x ≡ cost v x
  unfolding cost
  cost_same = refl

pub fixed_points_are_feasible : FixedPointsAreFeasible
fixed_points_are_feasible p values x starts feasible =
    (each-map (λ n h. node_feasible p values starts x n h) (view_of p).live feasible, cost_same p values starts x)

pub fixing_keeps_lower_ends : FixingKeepsLowerEnds
fixing_keeps_lower_ends p values end starts below x feasible =
    let free = fixed_points_are_feasible p values x starts feasible in
    le_trans_ℚ (below x free.0) (le_of_same_ℚ (sym free.1))
