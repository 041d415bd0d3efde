-- A program is a tree.
use Rattle.std.proofs.Common.{◌≡◌, ℕ, zero, suc, ◌+◌, ◌-◌, ◌≤◌, ◌<◌, Bool, true, false, ◌||◌, eqb, leb, List, [], ◌∷◌, length, Option, Some, None, inl, inr, refl, sym, ap, subst, ◌∙◌, arith, eqb-true}
use Rattle.std.proofs.lemmas.Bool.{eq-eqb, leb-true}
use Rattle.rationals.specs.Rational.{ℚ, zero_ℚ, ◌+ℚ◌, ◌≤ℚ◌, ◌<ℚ◌, by_linear, terms, le_refl_ℚ, lt_le_ℚ, lt_by}
use Rattle.rationals.specs.Ring.Given.{nothing, fact}
use Rattle.rationals.specs.Sums.{sum_ℚ}
use Rattle.rationals.specs.Sparse.{Entry, value_if}
use Rattle.scen_defs.specs.Lists.{Each, Once, is_in, places, passes_at}
use Rattle.scen_defs.specs.Program.{Scenario, Program, view_of, is_live, node_at, column_at, or_root, IsLive, HasPlace, IsEntry, IsNode, IsPath, IsColumnOf, IsTree, total}
use Rattle.scen_defs.specs.declared.program.Column.{Column}
use Rattle.scen_defs.specs.Trees.HasPlace.{is_first, is_below}
use Rattle.scen_defs.specs.Flat.{up, is_above, IsRoot}
use Rattle.scen_defs.specs.Valid.{Lives, HasParent, FitsNode, Follows, FitsScenario, is_reached, FitsColumn, IsProgram}
use Rattle.scen_defs.specs.Laws.{ProgramsAreTrees}
use Rattle.scen_defs.proofs.SumLaws.{each-map, each-once, sum-same}
use Rattle.scen_defs.proofs.TreeLaws.{climb}
use Rattle.scen_defs.proofs.Subtrees.{no, is-above}

-- ---- places
each-places : {A : Type 0} (P : ℕ → Type 0) (test : A → Bool) (k : ℕ) (xs : List A) → ((i n : ℕ) → n ≡ k + i → passes_at test i xs ≡ true → P n) → Each P (places test k xs)
each-places P test k [] h = tt
each-places {A} P test k (x ∷ xs) h = go (test x) refl (each-places P test (suc k) xs (λ i n e q. h (suc i) n (omega (arith, e)) q))
  where
    go : (b : Bool) → test x ≡ b → Each P (places test (suc k) xs) → Each P (elim b [ true ↦ k ∷ places test (suc k) xs | false ↦ places test (suc k) xs ])
    go true p rest = (h 0 k (omega arith) p, rest)
    go false p rest = rest

pub each-place : {A : Type 0} (P : ℕ → Type 0) (test : A → Bool) (xs : List A) → ((n : ℕ) → passes_at test n xs ≡ true → P n) → Each P (places test 0 xs)
each-place P test xs h = each-places P test 0 xs (λ i n e q. h n (subst (λ (k : ℕ). passes_at test k xs ≡ true) (let f : i ≡ n = omega (arith, e) in f) q))

once-place : {A : Type 0} (test : A → Bool) (i k n : ℕ) (xs : List A) → n ≡ k + i → passes_at test i xs ≡ true → Once n (places test k xs)
once-place test i k n [] e h = absurd (no refl h)
once-place {A} test zero k n (x ∷ xs) e h = go (test x) h
  where
    go : (b : Bool) → b ≡ true → Once n (elim b [ true ↦ k ∷ places test (suc k) xs | false ↦ places test (suc k) xs ])
    go true p = inl (omega (arith, e), each-places (λ m. m ≡ n → ⊥) test (suc k) xs (λ j m f q g. omega (arith, e, f, g)))
    go false p = absurd (no refl p)
once-place {A} test (suc i) k n (x ∷ xs) e h = go (test x) (once-place test i (suc k) n xs (omega (arith, e)) h)
  where
    go : (b : Bool) → Once n (places test (suc k) xs) → Once n (elim b [ true ↦ k ∷ places test (suc k) xs | false ↦ places test (suc k) xs ])
    go true rest = inr ((λ g. omega (arith, e, g)), rest)
    go false rest = rest

pub once-passes : {A : Type 0} (test : A → Bool) (n : ℕ) (xs : List A) → passes_at test n xs ≡ true → Once n (places test 0 xs)
once-passes test n xs h = once-place test n 0 n xs (omega arith) h

-- ---- columns
column-passes : (test : Column → Bool) (j : ℕ) (cs : List Column) → passes_at test j cs ≡ true → test (column_at cs j) ≡ true
column-passes test j [] h = absurd (no refl h)
column-passes test zero (c ∷ cs) h = h
column-passes test (suc j) (c ∷ cs) h = column-passes test j cs h

passes-column : (test other : Column → Bool) (j : ℕ) (cs : List Column) → passes_at test j cs ≡ true → other (column_at cs j) ≡ true → passes_at other j cs ≡ true
passes-column test other j [] h k = absurd (no refl h)
passes-column test other zero (c ∷ cs) h k = k
passes-column test other (suc j) (c ∷ cs) h k = passes-column test other j cs h k

each-column : (P : Column → Type 0) (test : Column → Bool) (j : ℕ) (cs : List Column) → passes_at test j cs ≡ true → Each P cs → P (column_at cs j)
each-column P test j [] h k = absurd (no refl h)
each-column P test zero (c ∷ cs) h k = k.0
each-column P test (suc j) (c ∷ cs) h k = each-column P test j cs h k.1

-- ---- nodes
lives : (p : Program) (n : ℕ) → Lives p n → IsLive (view_of p) n
lives p n h = once-passes is_live n p.nodes h

place : (p : Program) (n : ℕ) (parent : Option ℕ) → (node_at p.nodes n).parent ≡ parent → HasParent p n (node_at p.nodes n).stage parent → HasPlace (view_of p) n
place p n None e h = is_first h.1
place p n (Some m) e h = is_below (subst (IsLive (view_of p)) (sym (ap or_root e)) (lives p m h.live)) (subst (λ (k : ℕ). (node_at p.nodes n).stage ≡ suc (node_at p.nodes k).stage) (sym (ap or_root e)) h.earlier)

entry : (p : Program) (s : ℕ) (e : Entry) → passes_at (λ (c : Column). leb c.stage s) e.column p.columns ≡ true → IsEntry (view_of p) s e
entry p s e h = record {
  column = once-passes (λ (c : Column). eqb c.stage (column_at p.columns e.column).stage) e.column p.columns
      (passes-column (λ (c : Column). leb c.stage s) (λ (c : Column). eqb c.stage (column_at p.columns e.column).stage) e.column p.columns h (eq-eqb (column_at p.columns e.column).stage (column_at p.columns e.column).stage refl));
  reached = leb-true (column_at p.columns e.column).stage s (column-passes (λ (c : Column). leb c.stage s) e.column p.columns h);
}

node : (p : Program) → IsProgram p → (n : ℕ) → Lives p n → IsNode (view_of p) n
node p i n h = let f : FitsNode p n (node_at p.nodes n) = i.nodes n h in record {
  live = lives p n h;
  place = place p n (node_at p.nodes n).parent refl f.parent;
  cost = each-map (λ e k. once-passes (λ (c : Column). eqb c.stage (node_at p.nodes n).stage) e.column p.columns k) (node_at p.nodes n).cost f.cost;
  rows = each-map (λ r k. record { entries = each-map (λ e q. entry p (node_at p.nodes n).stage e q) r.entries k.entries; in_order = k.in_order }) (node_at p.nodes n).rows f.rows;
}

-- ---- paths
later : (p : Program) (s : ℕ) (above : Option ℕ) (path : List ℕ) → Follows p s above path → Each (λ n. s ≤ (node_at p.nodes n).stage) path
later p s above [] h = tt
later p s above (n ∷ path) h = ((let e : (node_at p.nodes n).stage ≡ s = h.1 in omega (arith, e)), each-map (λ m k. omega (arith, k)) path (later p (suc s) (Some n) path h.3))

path : (p : Program) (s : ℕ) (above : Option ℕ) (path : List ℕ) → Follows p s above path → IsPath (view_of p) path
path p s above [] h = record { live = tt; distinct = tt }
path p s above (n ∷ ns) h = let rest : IsPath (view_of p) ns = path p (suc s) (Some n) ns h.3 in record {
  live = (lives p n h.0, rest.live);
  distinct = (each-map (λ m k q. let e : (node_at p.nodes n).stage ≡ s = h.1 in let d : (node_at p.nodes m).stage ≡ (node_at p.nodes n).stage = ap (λ (i : ℕ). (node_at p.nodes i).stage) q in omega (arith, e, d, k)) ns (later p (suc s) (Some n) ns h.3), rest.distinct);
}

-- ---- totals
through : ℕ → List Scenario → ℚ
through n ss = sum_ℚ (λ (s : Scenario). value_if (is_in n s.path) s.probability) ss

nonneg : (b : Bool) (q : ℚ) → zero_ℚ <ℚ q → zero_ℚ ≤ℚ value_if b q
nonneg true q h = lt_le_ℚ h
nonneg false q h = le_refl_ℚ zero_ℚ

through-nonneg : (p : Program) (n : ℕ) (ss : List Scenario) → Each (FitsScenario p) ss → zero_ℚ ≤ℚ through n ss
unfolding through
through-nonneg p n [] h = le_refl_ℚ zero_ℚ
through-nonneg p n (s ∷ ss) h =
    let a : zero_ℚ ≤ℚ value_if (is_in n s.path) s.probability = nonneg (is_in n s.path) s.probability h.0.positive in
    let b : zero_ℚ ≤ℚ through n ss = through-nonneg p n ss h.1 in
    by_linear (value_if (is_in n s.path) s.probability ∷ through n ss ∷ []) (fact a (fact b nothing)) (search terms depth 40) tt

positive : (p : Program) (n : ℕ) (ss : List Scenario) → Each (FitsScenario p) ss → is_reached n ss ≡ true → zero_ℚ <ℚ through n ss
unfolding through
positive p n [] h r = absurd (no refl r)
positive p n (s ∷ ss) h r = go (is_in n s.path) refl (positive p n ss h.1)
  where
    go : (b : Bool) → is_in n s.path ≡ b → (is_reached n ss ≡ true → zero_ℚ <ℚ through n ss) → zero_ℚ <ℚ value_if b s.probability +ℚ through n ss
    go true e rest = let b : zero_ℚ ≤ℚ through n ss = through-nonneg p n ss h.1 in
        lt_by h.0.positive (λ k. by_linear (s.probability ∷ through n ss ∷ []) (fact b (fact k nothing)) (search terms depth 40) tt)
    go false e rest = lt_by (rest (sym (ap (λ b. b || is_reached n ss) e) ∙ r)) (λ k. by_linear (through n ss ∷ []) (fact k nothing) (search terms depth 40) tt)

tree : (p : Program) → IsProgram p → IsTree (view_of p)
unfolding through
tree p i = record {
  nodes = each-place (IsNode (view_of p)) is_live p.nodes (node p i);
  columns = λ s. each-place (IsColumnOf (view_of p) s) (λ (c : Column). eqb c.stage s) p.columns (λ j h. record {
    once = once-passes (λ (c : Column). eqb c.stage s) j p.columns h;
    stage = eqb-true (column_at p.columns j).stage s (column-passes (λ (c : Column). eqb c.stage s) j p.columns h);
    in_order = (each-column (FitsColumn p) (λ (c : Column). eqb c.stage s) j p.columns h i.columns).in_order;
  });
  paths = each-map (λ s h. path p 0 None s.path h.path) p.scenarios i.scenarios;
  totals = each-place (λ n. zero_ℚ <ℚ total (view_of p) n) is_live p.nodes (λ n h. positive p n p.scenarios i.scenarios (i.reached n h));
}

-- ---- the root
first : (p : Program) (n stage : ℕ) (parent : Option ℕ) → HasParent p n stage parent → stage ≡ 0 → n ≡ 0
first p n stage None h e = h.0
first p n stage (Some m) h e = absurd (let f : stage ≡ suc (node_at p.nodes m).stage = h.earlier in omega (arith, e, f))

-- a live node by its number
alive : (p : Program) (n : ℕ) → IsLive (view_of p) n → Lives p n
alive p n h = each-once (Lives p) n (places is_live 0 p.nodes) h (each-place (Lives p) is_live p.nodes (λ n q. q))

starts : (p : Program) → IsProgram p → (path : List ℕ) → Follows p 0 None path → is_in 0 path ≡ true
starts p i [] h = absurd (let q : 0 < length p.periods = i.periods in let e : 0 ≡ length p.periods = h in omega (arith, q, e))
starts p i (n ∷ path) h = ap (λ b. b || is_in 0 path) (eq-eqb n 0 (first p n (node_at p.nodes n).stage (node_at p.nodes n).parent (i.nodes n h.0).parent h.1))

root : (p : Program) → IsProgram p → IsRoot (view_of p) 0
root p i = record {
  above = each-place (λ m. is_above (view_of p) 0 m ≡ true) is_live p.nodes (λ m h.
      let c = climb (view_of p) (tree p i) m (lives p m h) (node_at p.nodes m).stage (omega arith) in
      let s : (node_at p.nodes (up (view_of p) (node_at p.nodes m).stage m)).stage ≡ 0 = (let e : (node_at p.nodes (up (view_of p) (node_at p.nodes m).stage m)).stage + (node_at p.nodes m).stage ≡ (node_at p.nodes m).stage = c.1 in omega (arith, e)) in
      let z : up (view_of p) (node_at p.nodes m).stage m ≡ 0 = first p (up (view_of p) (node_at p.nodes m).stage m) (node_at p.nodes (up (view_of p) (node_at p.nodes m).stage m)).stage (node_at p.nodes (up (view_of p) (node_at p.nodes m).stage m)).parent (i.nodes (up (view_of p) (node_at p.nodes m).stage m) (alive p _ c.0)).parent s in
      let r : (node_at p.nodes 0).stage ≡ 0 = sym (ap (λ (k : ℕ). (node_at p.nodes k).stage) z) ∙ s in
      is-above (view_of p) 0 m (omega (arith, r)) (ap (λ (k : ℕ). up (view_of p) k m) (let e : (node_at p.nodes m).stage - (node_at p.nodes 0).stage ≡ (node_at p.nodes m).stage = omega (arith, r) in e) ∙ z));
  certain = sum-same _ _ p.scenarios (each-map (λ s h. ap (λ b. value_if b s.probability) (starts p i s.path h.path)) p.scenarios i.scenarios) ∙ i.certain;
}

pub programs_are_trees : ProgramsAreTrees
programs_are_trees p i = (tree p i, root p i)
