-- What stays fit where nodes and scenarios of a program are replaced.
use Rattle.std.proofs.Common.{◌≡◌, ℕ, zero, suc, ◌+◌, ◌<◌, ◌≤◌, Bool, true, false, ◌||◌, eqb, leb, ltb, List, [], ◌∷◌, ◌++◌, map, length, Option, Some, None, refl, sym, ap, ap₂, ◌∙◌, arith, eqb-true}
use Rattle.std.proofs.lemmas.Bool.{eq-eqb, le-leb, or_right}
use Rattle.rationals.specs.Rational.{ℚ}
use Rattle.rationals.specs.Sparse.{Entry as Term}
use Rattle.rationals.specs.Forms.{is_zero, put_unless, put}
use Rattle.rationals.specs.Choices.{pick}
use Rattle.smps_words.specs.declared.entry.Entry.{Entry}
use Rattle.smps_words.specs.declared.entry.Entry.TheVariants.{Cost, Matrix, Rhs}
use Rattle.scen_defs.specs.Lists.{Each, is_in, passes_at}
use Rattle.scen_defs.specs.declared.program.Column.{Column}
use Rattle.scen_defs.specs.declared.program.Row.{Row}
use Rattle.scen_defs.specs.declared.program.NodeRow.{NodeRow}
use Rattle.scen_defs.specs.Program.{Node, Scenario, Program, is_live, node_at, column_at}
use Rattle.scen_defs.specs.Valid.{row_at, Lives, HasParent, FitsRow, FitsNode, Follows, FitsScenario, is_reached, FitsColumn, has_low, has_high, IsProgram}
use Rattle.scen_defs.proofs.SumLaws.{each-map}
use Rattle.edit_defs.specs.After.{scenario_named, set_entry, stage_of_entry, home_of, with_entry, with_ends, change_row, with_value}
use Rattle.edit_defs.specs.Applies.{IsEntryOf, IsSet}
use Rattle.edit_defs.proofs.Lists.{map-map, map-same, each-all}
use Rattle.edit_defs.proofs.Names.{each-named}
use Rattle.edit_defs.proofs.Paths.{follows-at, follows-length}
use Rattle.edit_defs.specs.Intervals.{right_side}
use Rattle.edit_defs.proofs.IntervalLaws.{IsInterval, interval-is}

abbrev pub changed : Program → List (Option Node) → List Scenario → Program
changed p nodes ss = record p { nodes = nodes; scenarios = ss }

-- node n is there among the new nodes, at its place
pub record KeptNode (p : Program) (nodes : List (Option Node)) (n : ℕ) : Type 0 where
  pub live : passes_at is_live n nodes ≡ true
  pub stage : (node_at nodes n).stage ≡ (node_at p.nodes n).stage
  pub parent : (node_at nodes n).parent ≡ (node_at p.nodes n).parent

pub follow : (p : Program) (nodes : List (Option Node)) (ss : List Scenario) (s : ℕ) (above : Option ℕ) (path : List ℕ) → ((n : ℕ) → is_in n path ≡ true → Lives p n → KeptNode p nodes n) → Follows p s above path → Follows (changed p nodes ss) s above path
follow p nodes ss s above [] k f = f
follow p nodes ss s above (n ∷ path) k f =
    let here : KeptNode p nodes n = k n (ap (λ b. b || is_in n path) (eq-eqb n n refl)) f.0 in
    (here.live, here.stage ∙ f.1, here.parent ∙ f.2, follow p nodes ss (suc s) (Some n) path (λ m h. k m (or_right (eqb n m) (is_in m path) h)) f.3)

pub refit-row : (p : Program) (nodes : List (Option Node)) (ss : List Scenario) (s : ℕ) (r : NodeRow) → FitsRow p s r → FitsRow (changed p nodes ss) s r
refit-row p nodes ss s r h = record { entries = h.entries; in_order = h.in_order; ends = h.ends }

pub refit : (p : Program) (nodes : List (Option Node)) (ss : List Scenario) (n : ℕ) (node : Node) → ((m : ℕ) → node.parent ≡ Some m → Lives p m → KeptNode p nodes m) → FitsNode p n node → FitsNode (changed p nodes ss) n node
refit p nodes ss n node k h = record { stage = h.stage; parent = go node.parent refl h.parent; cost = h.cost; numbers = h.numbers; rows = each-map (refit-row p nodes ss node.stage) node.rows h.rows }
  where
    go : (parent : Option ℕ) → node.parent ≡ parent → HasParent p n node.stage parent → HasParent (changed p nodes ss) n node.stage parent
    go None e q = q
    go (Some m) e q = let at : KeptNode p nodes m = k m e q.live in record { live = at.live; earlier = q.earlier ∙ ap (λ (i : ℕ). suc i) (sym at.stage); smaller = q.smaller }

pub refit-columns : (p : Program) (nodes : List (Option Node)) (ss : List Scenario) (cs : List Column) → Each (FitsColumn p) cs → Each (FitsColumn (changed p nodes ss)) cs
refit-columns p nodes ss cs h = each-map (λ (c : Column) (k : FitsColumn p c). record { stage = k.stage; in_order = k.in_order }) cs h

-- ---- members of lists by their number
pub column-passes : (test : Column → Bool) (j : ℕ) (cs : List Column) → j < length cs → test (column_at cs j) ≡ true → passes_at test j cs ≡ true
column-passes test j [] h t = absurd (omega (arith, h))
column-passes test zero (c ∷ cs) h t = t
column-passes test (suc j) (c ∷ cs) h t = column-passes test j cs (omega (arith, h)) t

pub each-column : (P : Column → Type 0) (j : ℕ) (cs : List Column) → j < length cs → Each P cs → P (column_at cs j)
each-column P j [] h k = absurd (omega (arith, h))
each-column P zero (c ∷ cs) h k = k.0
each-column P (suc j) (c ∷ cs) h k = each-column P j cs (omega (arith, h)) k.1

pub each-row : (P : Row → Type 0) (i : ℕ) (rs : List Row) → i < length rs → Each P rs → P (row_at rs i)
each-row P i [] h k = absurd (omega (arith, h))
each-row P zero (r ∷ rs) h k = k.0
each-row P (suc i) (r ∷ rs) h k = each-row P i rs (omega (arith, h)) k.1

-- ---- SET: the node with the entry set fits
each-put : (P : Term → Type 0) (j : ℕ) (v : ℚ) (f : List Term) → P (record { column = j; value = v }) → Each P f → Each P (put j v f)
each-put P j v f h k = go (is_zero v)
  where
    go : (b : Bool) → Each P (put_unless b j v f)
    go true = k
    go false = (h, k)

pub each-set_entry : (P : Term → Type 0) (j : ℕ) (v : ℚ) (f : List Term) → P (record { column = j; value = v }) → Each P f → Each P (set_entry j v f)
each-set_entry P j v [] h k = each-put P j v [] h tt
each-set_entry P j v (e ∷ f) h k = go (ltb j e.column) (eqb j e.column) (each-set_entry P j v f h k.1)
  where
    go : (a b : Bool) → Each P (set_entry j v f) → Each P (pick a (put j v (e ∷ f)) (pick b (put j v f) (e ∷ set_entry j v f)))
    go true b r = each-put P j v (e ∷ f) h k
    go false true r = each-put P j v f h k.1
    go false false r = (k.0, r)

-- rows of which one is changed and keeps its number
pub numbers-kept : (i : ℕ) (g : NodeRow → NodeRow) → ((r : NodeRow) → (g r).row ≡ r.row) → (rows : List NodeRow) → map (λ (r : NodeRow). r.row) (map (change_row i g) rows) ≡ map (λ (r : NodeRow). r.row) rows
numbers-kept i g e [] = refl
numbers-kept i g e (r ∷ rows) = ap₂ (λ (k : ℕ) ks. k ∷ ks) (go (eqb r.row i)) (numbers-kept i g e rows)
  where
    go : (b : Bool) → (let x : NodeRow = pick b (g r) r in x.row) ≡ r.row
    go true = e r
    go false = refl

pub each-changed : (P : NodeRow → Type 0) (i : ℕ) (g : NodeRow → NodeRow) → ((r : NodeRow) → r.row ≡ i → P r → P (g r)) → (rows : List NodeRow) → Each P rows → Each P (map (change_row i g) rows)
each-changed P i g f [] h = tt
each-changed P i g f (r ∷ rows) h = (go (eqb r.row i) refl, each-changed P i g f rows h.1)
  where
    go : (b : Bool) → eqb r.row i ≡ b → P (pick b (g r) r)
    go true e = f r (eqb-true r.row i e) h.0
    go false e = h.0

pub set-fits : (p : Program) (nodes : List (Option Node)) (ss : List Scenario) (n : ℕ) (entry : Entry) (v : ℚ) (node : Node) → IsEntryOf p entry → node.stage ≡ stage_of_entry p entry
    → FitsNode (changed p nodes ss) n node → FitsNode (changed p nodes ss) n (with_value p entry v node)
set-fits p nodes ss n (Cost j) v node a s h = record {
  stage = h.stage;
  parent = h.parent;
  cost = each-set_entry (λ (e : Term). passes_at (λ (c : Column). eqb c.stage node.stage) e.column p.columns ≡ true) j v node.cost
      (column-passes (λ (c : Column). eqb c.stage node.stage) j p.columns a (eq-eqb (column_at p.columns j).stage node.stage (sym s))) h.cost;
  numbers = h.numbers;
  rows = h.rows;
}
set-fits p nodes ss n (Matrix i j) v node a s h = record {
  stage = h.stage;
  parent = h.parent;
  cost = h.cost;
  numbers = numbers-kept i (with_entry j v) (λ r. refl) node.rows ∙ h.numbers;
  rows = each-changed (FitsRow (changed p nodes ss) node.stage) i (with_entry j v) (λ r e k. record {
    entries = each-set_entry (λ (e : Term). passes_at (λ (c : Column). leb c.stage node.stage) e.column p.columns ≡ true) j v r.entries
        (column-passes (λ (c : Column). leb c.stage node.stage) j p.columns a.column (le-leb (column_at p.columns j).stage node.stage (let t : (column_at p.columns j).stage ≤ (row_at p.rows i).stage = a.stage in omega (arith, t, s)))) k.entries;
    in_order = k.in_order;
    ends = record { low = k.ends.low; high = k.ends.high };
  }) node.rows h.rows;
}
set-fits p nodes ss n (Rhs i) v node a s h = record {
  stage = h.stage;
  parent = h.parent;
  cost = h.cost;
  numbers = numbers-kept i (with_ends (right_side (row_at p.rows i) v)) (λ r. refl) node.rows ∙ h.numbers;
  rows = each-changed (FitsRow (changed p nodes ss) node.stage) i (with_ends (right_side (row_at p.rows i) v)) (λ r e k. record {
    entries = k.entries;
    in_order = ends.in_order;
    ends = record { low = ends.low ∙ ap (λ (j : ℕ). has_low (row_at p.rows j).kind (row_at p.rows j).range) (sym e); high = ends.high ∙ ap (λ (j : ℕ). has_high (row_at p.rows j).kind (row_at p.rows j).range) (sym e) };
  }) node.rows h.rows;
}
  where
    ends : IsInterval (row_at p.rows i).kind (row_at p.rows i).range (right_side (row_at p.rows i) v)
    ends = interval-is (row_at p.rows i).kind v (row_at p.rows i).range

-- ---- the node of an entry
entry-stage : (p : Program) → IsProgram p → (entry : Entry) → IsEntryOf p entry → stage_of_entry p entry < length p.periods
entry-stage p i (Cost j) a = (each-column (FitsColumn p) j p.columns a i.columns).stage
entry-stage p i (Matrix k j) a = each-row (λ (r : Row). r.stage < length p.periods) k p.rows a.row i.row_stages
entry-stage p i (Rhs k) a = each-row (λ (r : Row). r.stage < length p.periods) k p.rows a i.row_stages

pub home-is : (p : Program) → IsProgram p → (name : List ℕ) (entry : Entry) → IsSet p name entry → Lives p (home_of p name entry) × ((node_at p.nodes (home_of p name entry)).stage ≡ stage_of_entry p entry)
home-is p i name entry a =
    let path : List ℕ = (scenario_named name p.scenarios).path in
    let f : FitsScenario p (scenario_named name p.scenarios) = each-named (FitsScenario p) name p.scenarios a.known i.scenarios in
    let e : 0 + length (scenario_named name p.scenarios).path ≡ length p.periods = follows-length p 0 None (scenario_named name p.scenarios).path f.path in
    let s : stage_of_entry p entry < length p.periods = entry-stage p i entry a.entry_is in
    let r : Lives p (home_of p name entry) × ((node_at p.nodes (home_of p name entry)).stage ≡ 0 + stage_of_entry p entry) = follows-at p 0 None (scenario_named name p.scenarios).path (stage_of_entry p entry) f.path (omega (arith, e, s)) in
    (r.0, (let t : (node_at p.nodes (home_of p name entry)).stage ≡ 0 + stage_of_entry p entry = r.1 in omega (arith, t)))

-- ---- scenarios that keep their paths
pub reached-map : (f : Scenario → Scenario) → ((s : Scenario) → (f s).path ≡ s.path) → (n : ℕ) (ss : List Scenario) → is_reached n (map f ss) ≡ is_reached n ss
reached-map f e n [] = refl
reached-map f e n (s ∷ ss) = ap₂ (λ (path : List ℕ) b. is_in n path || b) (e s) (reached-map f e n ss)

pub names-map : (f : Scenario → Scenario) → ((s : Scenario) → (f s).name ≡ s.name) → (ss : List Scenario) → map (λ (s : Scenario). s.name) (map f ss) ≡ map (λ (s : Scenario). s.name) ss
names-map f e ss = map-map (λ (s : Scenario). s.name) f ss ∙ map-same _ _ ss (each-all e ss)

pub reached-append : (n : ℕ) (ss ts : List Scenario) → is_reached n (ss ++ ts) ≡ is_reached n ss || is_reached n ts
reached-append n [] ts = refl
reached-append n (s ∷ ss) ts = ap (λ b. is_in n s.path || b) (reached-append n ss ts) ∙ sym (or-assoc (is_in n s.path) (is_reached n ss) (is_reached n ts))
  where
    or-assoc : (a b c : Bool) → (a || b) || c ≡ a || (b || c)
    or-assoc true b c = refl
    or-assoc false b c = refl

-- each node of a path of one of them is reached
pub all-reached : (ss : List Scenario) → Each (λ (s : Scenario). (n : ℕ) → is_in n s.path ≡ true → is_reached n ss ≡ true) ss
all-reached [] = tt
all-reached (s ∷ ss) = ((λ n h. ap (λ b. b || is_reached n ss) h), each-map {P = λ (t : Scenario). (n : ℕ) → is_in n t.path ≡ true → is_reached n ss ≡ true} {Q = λ (t : Scenario). (n : ℕ) → is_in n t.path ≡ true → is_reached n (s ∷ ss) ≡ true} (λ t f n h. or_right (is_in n s.path) (is_reached n ss) (f n h)) ss (all-reached ss))
