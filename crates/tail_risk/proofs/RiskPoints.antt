-- Points of the program and of the one that it is made of.
use Rattle.std.proofs.Common.{◌≡◌, ℕ, zero, suc, ◌+◌, ◌-◌, ◌<◌, ◌≤◌, Bool, true, false, eqb, leb, List, [], ◌∷◌, ◌++◌, length, Option, Some, None, refl, sym, ap, ap₂, subst, ◌∙◌, arith, eqb-true}
use Rattle.std.proofs.lemmas.Bool.{eq-eqb}
use Rattle.rationals.specs.Rational.{ℚ, zero_ℚ, one_ℚ, neg_ℚ, ◌+ℚ◌, ◌*ℚ◌, ◌≤ℚ◌, by_ring, terms, add_zero_ℚ}
use Rattle.rationals.specs.Sums.{sum-append}
use Rattle.rationals.specs.Intervals.{Between}
use Rattle.rationals.specs.Choices.{pick}
use Rattle.rationals.specs.Sparse.{Entry, product, value_if}
use Rattle.rationals.specs.Forms.{put}
use Rattle.scen_defs.specs.Lists.{Each, passes_at}
use Rattle.scen_defs.specs.declared.program.Column.{Column}
use Rattle.scen_defs.specs.declared.program.NodeRow.{NodeRow}
use Rattle.scen_defs.specs.Program.{Node, Program, View, view_of, is_live, node_at, column_at, or_root}
use Rattle.scen_defs.specs.Flat.{up, home, along, node_cost, Feasible, FeasibleAt}
use Rattle.scen_defs.specs.Valid.{Lives, HasParent, FitsRow, IsProgram}
use Rattle.scen_defs.proofs.SumLaws.{each-map, each-both, each-once}
use Rattle.scen_defs.proofs.Subtrees.{no}
use Rattle.scen_defs.proofs.Valid.{each-place, once-passes}
use Rattle.edit_defs.proofs.Lists.{passes-within, each-append}
use Rattle.tail_risk.specs.TailRow.{h_column, u_column, one_at, path_costs, tail_row, with_other_signs}
use Rattle.tail_risk.specs.TailProgram.{last_stage, h_added, u_added, scaled_form, added_costs, added_row}
use Rattle.tail_risk.specs.declared.rates.Rates.{Rates}
use Rattle.tail_risk.proofs.Merges.{turned_product}
use Rattle.tail_risk.proofs.Scaled.{scaled_product, put_product}
use Rattle.tail_risk.proofs.PathLaws.{Above, above_of, path_up_to}
use Rattle.tail_risk.proofs.TailKeeps.{q, lives_there, lives_here, node_there, column_left, u_passes}
use Rattle.tail_risk.proofs.RiskPaths.{product_same}

-- ---- two columns behind others
each_two : (P : ℕ → Type 0) (test : Column → Bool) (cs : List Column) (a b : Column) → ((j : ℕ) → passes_at test j cs ≡ true → P j) → (test a ≡ true → P (length cs)) → (test b ≡ true → P (suc (length cs)))
    → (j : ℕ) → passes_at test j (cs ++ a ∷ b ∷ []) ≡ true → P j
each_two P test [] a b f g h zero k = g k
each_two P test [] a b f g h (suc zero) k = h k
each_two P test [] a b f g h (suc (suc j)) k = absurd (no refl k)
each_two P test (c ∷ cs) a b f g h zero k = f 0 k
each_two P test (c ∷ cs) a b f g h (suc j) k = each_two (λ j. P (suc j)) test cs a b (λ j k. f (suc j) k) g h j k

at_left : (cs more : List Column) (j : ℕ) → j < length cs → column_at (cs ++ more) j ≡ column_at cs j
at_left [] more j h = absurd (omega (arith, h))
at_left (c ∷ cs) more zero h = refl
at_left (c ∷ cs) more (suc j) h = at_left cs more j (omega (arith, h))

at_first : (cs : List Column) (a b : Column) → column_at (cs ++ a ∷ b ∷ []) (length cs) ≡ a
at_first [] a b = refl
at_first (c ∷ cs) a b = at_first cs a b

at_second : (cs : List Column) (a b : Column) → column_at (cs ++ a ∷ b ∷ []) (suc (length cs)) ≡ b
at_second [] a b = refl
at_second (c ∷ cs) a b = at_second cs a b

-- ---- a sum of a form, and of one that is there or not
append_product : (f g : List Entry) (x : ℕ → ℚ) → product (f ++ g) x ≡ product f x +ℚ product g x
append_product f g x = sum-append (λ (e : Entry). e.value *ℚ x e.column) f g

there_product : (b : Bool) (c : ℕ) (r : ℚ) (x : ℕ → ℚ) → product (pick b (put c r []) []) x ≡ value_if b (r *ℚ x c)
there_product true c r x = put_product c r [] x ∙ add_zero_ℚ (r *ℚ x c)
there_product false c r x = refl

each_left : {A : Type 0} (P : A → Type 0) (xs ys : List A) → Each P (xs ++ ys) → Each P xs
each_left P [] ys h = tt
each_left P (x ∷ xs) ys h = (h.0, each_left P xs ys h.1)

each_right : {A : Type 0} (P : A → Type 0) (xs ys : List A) → Each P (xs ++ ys) → Each P ys
each_right P [] ys h = h
each_right P (x ∷ xs) ys h = each_right P xs ys h.1

module _ (p : Program) (rates : Rates) (i : IsProgram p) where
  abbrev v : View
  v = view_of p

  abbrev u : View
  u = view_of (q p rates)

  abbrev stage : ℕ → ℕ
  stage n = (node_at p.nodes n).stage

  stage_same : (n : ℕ) → Lives p n → u.stage n ≡ stage n
  stage_same n l = ap (λ (x : Node). x.stage) (node_there p rates n l)

  parent_same : (n : ℕ) → Lives p n → u.parent n ≡ v.parent n
  parent_same n l = ap (λ (x : Node). or_root x.parent) (node_there p rates n l)

  cost_same : (n : ℕ) → Lives p n → u.cost n ≡ scaled_form rates.old (v.cost n) ++ added_costs p rates (stage n)
  cost_same n l = ap (λ (x : Node). x.cost) (node_there p rates n l)

  rows_same : (n : ℕ) → Lives p n → u.rows n ≡ v.rows n ++ added_row p n (stage n)
  rows_same n l = ap (λ (x : Node). x.rows) (node_there p rates n l)

  -- ---- the same ways up
  climbs : (k n : ℕ) → Lives p n → k ≤ stage n → Lives p (up v k n) × (stage (up v k n) + k ≡ stage n)
  climbs zero n l h = (l, omega arith)
  climbs (suc k) n l h =
      let rest = climbs k n l (omega (arith, h)) in
      let e : stage (up v k n) + k ≡ stage n = rest.1 in
      let a : Above p (up v k n) (or_root (node_at p.nodes (up v k n)).parent) = above_of p i (up v k n) rest.0 (omega (arith, e, h)) in
      let d = a.stage in
      (a.live, omega (arith, e, d))

  up_same : (k n : ℕ) → Lives p n → k ≤ stage n → up u k n ≡ up v k n
  up_same zero n l h = refl
  up_same (suc k) n l h = ap u.parent (up_same k n l (omega (arith, h))) ∙ parent_same (up v k n) (climbs k n l (omega (arith, h))).0

  home_same : (n j : ℕ) → Lives p n → j < length p.columns → home u n j ≡ home v n j
  home_same n j l h =
      ap₂ (λ s t. up u (s - t) n) (stage_same n l) (ap (λ (c : Column). c.stage) (at_left p.columns (h_added ∷ u_added p ∷ []) j h))
      ∙ up_same (stage n - v.stage_of j) n l (omega arith)

  pub root_of : (n : ℕ) → Lives p n → stage n ≡ 0 → n ≡ 0
  root_of n l e = go (node_at p.nodes n).parent (i.nodes n l).parent
    where
      go : (parent : Option ℕ) → HasParent p n (stage n) parent → n ≡ 0
      go None k = k.0
      go (Some m) k = absurd (let d = k.earlier in omega (arith, d, e))

  h_home : (n : ℕ) → Lives p n → home u n (h_column p) ≡ 0
  h_home n l =
      let c = climbs (stage n) n l (omega arith) in
      let e : stage (up v (stage n) n) + stage n ≡ stage n = c.1 in
      ap₂ (λ s t. up u (s - t) n) (stage_same n l) (ap (λ (c : Column). c.stage) (at_first p.columns h_added (u_added p)))
      ∙ ap (λ k. up u k n) (let z : stage n - 0 ≡ stage n = omega arith in z)
      ∙ up_same (stage n) n l (omega arith) ∙ root_of (up v (stage n) n) c.0 (omega (arith, e))

  u_home : (n : ℕ) → Lives p n → stage n ≡ last_stage p → home u n (u_column p) ≡ n
  u_home n l e =
      ap₂ (λ s t. up u (s - t) n) (stage_same n l ∙ e) (ap (λ (c : Column). c.stage) (at_second p.columns h_added (u_added p)))
      ∙ ap (λ k. up u k n) (let z : last_stage p - last_stage p ≡ 0 = omega arith in z)

  -- ---- what a node costs
  pub node_costs : (y : ℕ → ℕ → ℚ) (n : ℕ) → Lives p n
      → node_cost u y n ≡ rates.old *ℚ node_cost v y n +ℚ (value_if (eqb 0 (stage n)) (rates.h *ℚ y n (h_column p)) +ℚ value_if (eqb (last_stage p) (stage n)) (rates.u *ℚ y n (u_column p)))
  node_costs y n l =
      ap (λ f. product f (y n)) (cost_same n l)
      ∙ append_product (scaled_form rates.old (v.cost n)) (added_costs p rates (stage n)) (y n)
      ∙ ap₂ (λ a b. a +ℚ b) (scaled_product rates.old (v.cost n) (y n))
      (append_product (pick (eqb 0 (stage n)) (put (h_column p) rates.h []) []) (pick (eqb (last_stage p) (stage n)) (put (u_column p) rates.u []) []) (y n)
      ∙ ap₂ (λ a b. a +ℚ b) (there_product (eqb 0 (stage n)) (h_column p) rates.h (y n)) (there_product (eqb (last_stage p) (stage n)) (u_column p) rates.u (y n)))

  -- ---- points that agree on the old columns
  module _ (x y : ℕ → ℕ → ℚ) (same : (n j : ℕ) → j < length p.columns → y n j ≡ x n j) where
    along_same : (n j : ℕ) → Lives p n → j < length p.columns → along u y n j ≡ along v x n j
    along_same n j l h = ap (λ m. y m j) (home_same n j l h) ∙ same (home v n j) j h

    along_form : (n s : ℕ) → Lives p n → (f : List Entry) → Each (λ (e : Entry). passes_at (λ (c : Column). leb c.stage s) e.column p.columns ≡ true) f → product f (along u y n) ≡ product f (along v x n)
    along_form n s l f h = product_same f (along u y n) (along v x n) (each-map (λ (e : Entry) k. along_same n e.column l (passes-within (λ (c : Column). leb c.stage s) e.column p.columns k)) f h)

    -- what the row TAIL_R sums up to
    pub tail_sum : (n : ℕ) → Lives p n → stage n ≡ last_stage p
        → product (tail_row p n).entries (along u y n) ≡ neg_ℚ (product (path_costs p.nodes n) (along v x n)) +ℚ (y 0 (h_column p) +ℚ y n (u_column p))
    tail_sum n l e =
        append_product (with_other_signs (path_costs p.nodes n)) (one_at (h_column p) ∷ one_at (u_column p) ∷ []) (along u y n)
        ∙ ap₂ (λ a b. a +ℚ b) (turned_product (along u y n) (path_costs p.nodes n) ∙ ap neg_ℚ (along_form n (stage n) l (path_costs p.nodes n) (path_up_to p i n l)))
        (ap₂ (λ a b. one_ℚ *ℚ a +ℚ (one_ℚ *ℚ b +ℚ zero_ℚ)) (ap (λ m. y m (h_column p)) (h_home n l)) (ap (λ m. y m (u_column p)) (u_home n l e))
        ∙ by_ring (y 0 (h_column p) ∷ y n (u_column p) ∷ []) (search terms depth 40) tt)

    old_rows_up : (n : ℕ) → Lives p n → (rows : List NodeRow) → Each (FitsRow p (stage n)) rows → Each (λ (r : NodeRow). Between r.low r.high (product r.entries (along v x n))) rows
        → Each (λ (r : NodeRow). Between r.low r.high (product r.entries (along u y n))) rows
    old_rows_up n l rows a b = each-both (λ (r : NodeRow) f k. subst (Between r.low r.high) (sym (along_form n (stage n) l r.entries f.entries)) k) rows a b

    old_rows_down : (n : ℕ) → Lives p n → (rows : List NodeRow) → Each (FitsRow p (stage n)) rows → Each (λ (r : NodeRow). Between r.low r.high (product r.entries (along u y n))) rows
        → Each (λ (r : NodeRow). Between r.low r.high (product r.entries (along v x n))) rows
    old_rows_down n l rows a b = each-both (λ (r : NodeRow) f k. subst (Between r.low r.high) (along_form n (stage n) l r.entries f.entries) k) rows a b

    -- ---- upwards: the new program's point
    module _ (feasible : Feasible v x) (free : (n : ℕ) → Lives p n → stage n ≡ last_stage p → (zero_ℚ ≤ℚ y n (u_column p)) × (zero_ℚ ≤ℚ product (tail_row p n).entries (along u y n))) where
      here : (n : ℕ) → Lives p n → FeasibleAt v x n
      here n l = each-once (FeasibleAt v x) n v.live (once-passes is_live n p.nodes l) feasible

      new_rows : (n : ℕ) → Lives p n → (b : Bool) → eqb (last_stage p) (stage n) ≡ b → Each (λ (r : NodeRow). Between r.low r.high (product r.entries (along u y n))) (pick b (tail_row p n ∷ []) [])
      new_rows n l true e = (record { above = (free n l (sym (eqb-true (last_stage p) (stage n) e))).1; below = tt }, tt)
      new_rows n l false e = tt

      old_bound : (n j : ℕ) → Lives p n → passes_at (λ (c : Column). eqb c.stage (stage n)) j p.columns ≡ true → Between (u.lower j) (u.upper j) (y n j)
      old_bound n j l k =
          let w : j < length p.columns = passes-within (λ (c : Column). eqb c.stage (stage n)) j p.columns k in
          let c : column_at (p.columns ++ h_added ∷ u_added p ∷ []) j ≡ column_at p.columns j = at_left p.columns (h_added ∷ u_added p ∷ []) j w in
          let b : Between (v.lower j) (v.upper j) (x n j) = each-once (λ j. Between (v.lower j) (v.upper j) (x n j)) j (v.columns (stage n)) (once-passes (λ (c : Column). eqb c.stage (stage n)) j p.columns k) (here n l).bounds in
          subst (λ (c : Column). Between c.lower c.upper (y n j)) (sym c) (subst (Between (v.lower j) (v.upper j)) (sym (same n j w)) b)

      bounds : (n : ℕ) → Lives p n → Each (λ j. Between (u.lower j) (u.upper j) (y n j)) (u.columns (stage n))
      bounds n l = each-place (λ j. Between (u.lower j) (u.upper j) (y n j)) (λ (c : Column). eqb c.stage (stage n)) (p.columns ++ h_added ∷ u_added p ∷ [])
          (each_two (λ j. Between (u.lower j) (u.upper j) (y n j)) (λ (c : Column). eqb c.stage (stage n)) p.columns h_added (u_added p) (λ j k. old_bound n j l k)
          (λ k. subst (λ (c : Column). Between c.lower c.upper (y n (h_column p))) (sym (at_first p.columns h_added (u_added p))) (record { above = tt; below = tt }))
          (λ k. subst (λ (c : Column). Between c.lower c.upper (y n (u_column p))) (sym (at_second p.columns h_added (u_added p))) (record { above = (free n l (sym (eqb-true (last_stage p) (stage n) k))).0; below = tt })))

      pub feasible_up : Feasible u y
      feasible_up = each-place (FeasibleAt u y) is_live (q p rates).nodes (λ n live.
          let l : Lives p n = lives_here p rates n live in
          record {
            rows = subst (Each (λ (r : NodeRow). Between r.low r.high (product r.entries (along u y n)))) (sym (rows_same n l))
                (each-append (λ (r : NodeRow). Between r.low r.high (product r.entries (along u y n))) (v.rows n) (added_row p n (stage n)) (old_rows_up n l (v.rows n) (i.nodes n l).rows (here n l).rows) (new_rows n l (eqb (last_stage p) (stage n)) refl));
            bounds = subst (λ s. Each (λ j. Between (u.lower j) (u.upper j) (y n j)) (u.columns s)) (sym (stage_same n l)) (bounds n l);
          })

    -- ---- downwards: the old program's point
    module _ (feasible : Feasible u y) where
      there : (n : ℕ) → Lives p n → FeasibleAt u y n
      there n l = each-once (FeasibleAt u y) n u.live (once-passes is_live n (q p rates).nodes (lives_there p rates n l)) feasible

      all_rows : (n : ℕ) → Lives p n → Each (λ (r : NodeRow). Between r.low r.high (product r.entries (along u y n))) (v.rows n ++ added_row p n (stage n))
      all_rows n l = subst (Each (λ (r : NodeRow). Between r.low r.high (product r.entries (along u y n)))) (rows_same n l) (there n l).rows

      bound_there : (n j : ℕ) → Lives p n → passes_at (λ (c : Column). eqb c.stage (stage n)) j (p.columns ++ h_added ∷ u_added p ∷ []) ≡ true → Between (u.lower j) (u.upper j) (y n j)
      bound_there n j l k = each-once (λ j. Between (u.lower j) (u.upper j) (y n j)) j (u.columns (stage n)) (once-passes (λ (c : Column). eqb c.stage (stage n)) j (p.columns ++ h_added ∷ u_added p ∷ []) k)
          (subst (λ s. Each (λ j. Between (u.lower j) (u.upper j) (y n j)) (u.columns s)) (stage_same n l) (there n l).bounds)

      pub feasible_down : Feasible v x
      feasible_down = each-place (FeasibleAt v x) is_live p.nodes (λ n l. record {
        rows = old_rows_down n l (v.rows n) (i.nodes n l).rows (each_left (λ (r : NodeRow). Between r.low r.high (product r.entries (along u y n))) (v.rows n) (added_row p n (stage n)) (all_rows n l));
        bounds = each-place (λ j. Between (v.lower j) (v.upper j) (x n j)) (λ (c : Column). eqb c.stage (stage n)) p.columns (λ j k.
            let w : j < length p.columns = passes-within (λ (c : Column). eqb c.stage (stage n)) j p.columns k in
            subst (Between (v.lower j) (v.upper j)) (same n j w)
            (subst (λ (c : Column). Between c.lower c.upper (y n j)) (at_left p.columns (h_added ∷ u_added p ∷ []) j w) (bound_there n j l (column_left p rates (λ (c : Column). eqb c.stage (stage n)) j k))));
      })

      -- what holds at a node of the last stage
      pub last_down : (n : ℕ) → Lives p n → stage n ≡ last_stage p → (zero_ℚ ≤ℚ y n (u_column p)) × (zero_ℚ ≤ℚ product (tail_row p n).entries (along u y n))
      last_down n l e =
          let is : eqb (last_stage p) (stage n) ≡ true = eq-eqb (last_stage p) (stage n) (sym e) in (
            (subst (λ (c : Column). Between c.lower c.upper (y n (u_column p))) (at_second p.columns h_added (u_added p)) (bound_there n (u_column p) l (u_passes p rates (λ (c : Column). eqb c.stage (stage n)) ∙ is))).above,
            (subst (λ b. Each (λ (r : NodeRow). Between r.low r.high (product r.entries (along u y n))) (pick b (tail_row p n ∷ []) [])) is
                (each_right (λ (r : NodeRow). Between r.low r.high (product r.entries (along u y n))) (v.rows n) (added_row p n (stage n)) (all_rows n l))).0.above,
          )
