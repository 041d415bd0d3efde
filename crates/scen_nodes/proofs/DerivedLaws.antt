-- The form of a program that a run solves keeps what programs keep.
use Rattle.std.proofs.Common.{◌≡◌, ℕ, zero, suc, ◌<◌, ◌^◌, Bool, true, eqb, leb, is_some, List, [], ◌∷◌, map, Option, Some, None}
use Rattle.std.proofs.Common.{refl, sym, ap, subst, ◌∙◌}
use Rattle.std.proofs.lemmas.List.{length-map}
use Rattle.rationals.specs.Rational.{ℚ, zero_ℚ, one_ℚ, neg_ℚ, ◌≤ℚ◌, le_refl_ℚ, one_nonneg_ℚ, by_linear, terms}
use Rattle.rationals.specs.Ring.Given.{nothing}
use Rattle.rationals.specs.Sparse.{Entry}
use Rattle.scen_defs.specs.declared.report.Kind.{Kind}
use Rattle.scen_defs.specs.declared.report.Kind.TheVariants.{Feasible, Recession, Cost}
use Rattle.scen_defs.specs.declared.program.Column.{Column}
use Rattle.scen_defs.specs.declared.program.Row.{Row}
use Rattle.scen_defs.specs.declared.program.NodeRow.{NodeRow}
use Rattle.scen_defs.specs.Lists.{Each, passes_at}
use Rattle.rationals.specs.Intervals.{InOrder}
use Rattle.scen_defs.specs.Trees.{Node, Scenario, Program, is_live, node_at}
use Rattle.scen_defs.specs.Valid.{Lives, HasParent, FitsRow, FitsNode, Follows, FitsScenario, FitsColumn, IsProgram, AreNames}
use Rattle.scen_defs.proofs.SumLaws.{each-map}
use Rattle.scen_nodes.specs.Derived.{derived, derived_bound, derived_column, derived_cost, derived_end, derived_node, derived_place, derived_row}

-- ---- intervals
minus_one : neg_ℚ one_ℚ ≤ℚ zero_ℚ
minus_one = by_linear [] nothing (search terms depth 40) tt

minus_one_one : neg_ℚ one_ℚ ≤ℚ one_ℚ
minus_one_one = by_linear [] nothing (search terms depth 40) tt

bounds_in_order : (kind : Kind) (lower upper : Option ℚ) → InOrder lower upper → InOrder (derived_bound kind (neg_ℚ one_ℚ) lower) (derived_bound kind one_ℚ upper)
bounds_in_order Feasible lower upper h = h
bounds_in_order Cost lower upper h = h
bounds_in_order Recession None None h = minus_one_one
bounds_in_order Recession None (Some u) h = minus_one
bounds_in_order Recession (Some l) None h = one_nonneg_ℚ
bounds_in_order Recession (Some l) (Some u) h = le_refl_ℚ zero_ℚ

ends_in_order : (kind : Kind) (low high : Option ℚ) → InOrder low high → InOrder (derived_end kind low) (derived_end kind high)
ends_in_order Feasible low high h = h
ends_in_order Cost low high h = h
ends_in_order Recession None high h = tt
ends_in_order Recession (Some l) None h = tt
ends_in_order Recession (Some l) (Some u) h = le_refl_ℚ zero_ℚ

same_ends : (kind : Kind) (end : Option ℚ) → is_some (derived_end kind end) ≡ is_some end
same_ends Feasible end = refl
same_ends Cost end = refl
same_ends Recession None = refl
same_ends Recession (Some e) = refl

-- ---- lists
each_over : {A B : Type 0} {P : A → Type 0} (Q : B → Type 0) (f : A → B) → ((a : A) → P a → Q (f a)) → (xs : List A) → Each P xs → Each Q (map f xs)
each_over Q f h [] all = tt
each_over Q f h (x ∷ xs) all = (h x all.0, each_over Q f h xs all.1)

passes_over : (kind : Kind) (test : ℕ → Bool) (j : ℕ) (cs : List Column)
    → passes_at (λ (c : Column). test c.stage) j (map (derived_column kind) cs) ≡ passes_at (λ (c : Column). test c.stage) j cs
passes_over kind test j [] = refl
passes_over kind test zero (c ∷ cs) = refl
passes_over kind test (suc j) (c ∷ cs) = passes_over kind test j cs

names_over : (kind : Kind) (cs : List Column) → map (λ (c : Column). c.name) (map (derived_column kind) cs) ≡ map (λ (c : Column). c.name) cs
names_over kind [] = refl
names_over kind (c ∷ cs) = ap (λ l. c.name ∷ l) (names_over kind cs)

numbers_over : (kind : Kind) (rows : List NodeRow) → map (λ (r : NodeRow). r.row) (map (derived_row kind) rows) ≡ map (λ (r : NodeRow). r.row) rows
numbers_over kind [] = refl
numbers_over kind (r ∷ rows) = ap (λ l. r.row ∷ l) (numbers_over kind rows)

-- ---- nodes
live_over : (kind : Kind) (n : ℕ) (nodes : List (Option Node)) → passes_at is_live n (map (derived_place kind) nodes) ≡ passes_at is_live n nodes
live_over kind n [] = refl
live_over kind zero (None ∷ nodes) = refl
live_over kind zero (Some node ∷ nodes) = refl
live_over kind (suc n) (place ∷ nodes) = live_over kind n nodes

node_over : (kind : Kind) (n : ℕ) (nodes : List (Option Node)) → passes_at is_live n nodes ≡ true → node_at (map (derived_place kind) nodes) n ≡ derived_node kind (node_at nodes n)
node_over kind n [] h = cc
node_over kind zero (None ∷ nodes) h = cc
node_over kind zero (Some node ∷ nodes) h = refl
node_over kind (suc n) (None ∷ nodes) h = node_over kind n nodes h
node_over kind (suc n) (Some node ∷ nodes) h = node_over kind n nodes h

module _ (kind : Kind) (p : Program) where
  abbrev q : Program
  q = derived kind p

  lives : (n : ℕ) → Lives p n → Lives q n
  lives n h = live_over kind n p.nodes ∙ h

  lived : (n : ℕ) → Lives q n → Lives p n
  lived n h = sym (live_over kind n p.nodes) ∙ h

  costs : (stage : ℕ) (cost : List Entry) → Each (λ (e : Entry). passes_at (λ (c : Column). eqb c.stage stage) e.column p.columns ≡ true) cost
      → Each (λ (e : Entry). passes_at (λ (c : Column). eqb c.stage stage) e.column q.columns ≡ true) cost
  costs stage cost h = each-map (λ (e : Entry) fits. passes_over kind (λ s. eqb s stage) e.column p.columns ∙ fits) cost h

  derived_costs : (k : Kind) (stage : ℕ) (cost : List Entry) → Each (λ (e : Entry). passes_at (λ (c : Column). eqb c.stage stage) e.column q.columns ≡ true) cost
      → Each (λ (e : Entry). passes_at (λ (c : Column). eqb c.stage stage) e.column q.columns ≡ true) (derived_cost k cost)
  derived_costs Feasible stage cost h = tt
  derived_costs Recession stage cost h = h
  derived_costs Cost stage cost h = h

  row : (stage : ℕ) (r : NodeRow) → FitsRow p stage r → FitsRow q stage (derived_row kind r)
  row stage r h = record {
    entries = each-map (λ (e : Entry) fits. passes_over kind (λ s. leb s stage) e.column p.columns ∙ fits) r.entries h.entries;
    in_order = ends_in_order kind r.low r.high h.in_order;
    ends = record { low = same_ends kind r.low ∙ h.ends.low; high = same_ends kind r.high ∙ h.ends.high };
  }

  parent : (n stage : ℕ) (m : Option ℕ) → HasParent p n stage m → HasParent q n stage m
  parent n stage None h = h
  parent n stage (Some m) h = record {
    live = lives m h.live;
    earlier = h.earlier ∙ ap (λ (node : Node). suc node.stage) (sym (node_over kind m p.nodes h.live));
    smaller = h.smaller;
  }

  fits : (n : ℕ) (node : Node) → FitsNode p n node → FitsNode q n (derived_node kind node)
  fits n node h = record {
    stage = h.stage;
    parent = parent n node.stage node.parent h.parent;
    cost = derived_costs kind node.stage node.cost (costs node.stage node.cost h.cost);
    numbers = numbers_over kind node.rows ∙ h.numbers;
    rows = each_over (FitsRow q node.stage) (derived_row kind) (row node.stage) node.rows h.rows;
  }

  follows : (s : ℕ) (above : Option ℕ) (path : List ℕ) → Follows p s above path → Follows q s above path
  follows s above [] h = h
  follows s above (n ∷ path) h = let same = node_over kind n p.nodes h.0 in
      (lives n h.0, ap (λ (node : Node). node.stage) same ∙ h.1, ap (λ (node : Node). node.parent) same ∙ h.2, follows (suc s) (Some n) path h.3)

  pub derived_keeps : IsProgram p → IsProgram q
  derived_keeps i = record {
    small = record {
      columns = subst (λ (n : ℕ). n < 2 ^ 32) (sym (length-map p.columns (derived_column kind))) i.small.columns;
      rows = i.small.rows;
      nodes = subst (λ (n : ℕ). n < 2 ^ 32) (sym (length-map p.nodes (derived_place kind))) i.small.nodes;
      scenarios = i.small.scenarios;
    };
    names = record {
      periods = i.names.periods;
      columns = subst AreNames (sym (names_over kind p.columns)) i.names.columns;
      rows = i.names.rows;
      scenarios = i.names.scenarios;
    };
    periods = i.periods;
    few_periods = i.few_periods;
    row_stages = i.row_stages;
    columns = each_over (FitsColumn q) (derived_column kind) (λ (c : Column) (h : FitsColumn p c). record { stage = h.stage; in_order = bounds_in_order kind c.lower c.upper h.in_order }) p.columns i.columns;
    nodes = λ n live. subst (FitsNode q n) (sym (node_over kind n p.nodes (lived n live))) (fits n (node_at p.nodes n) (i.nodes n (lived n live)));
    scenarios = each-map (λ (s : Scenario) (h : FitsScenario p s). record { positive = h.positive; path = follows 0 None s.path h.path }) p.scenarios i.scenarios;
    reached = λ n live. i.reached n (lived n live);
    certain = i.certain;
  }

-- the lists of a copy in this form
pub derived_parts : (kind : Kind) (p : Program) (objective rhs : List ℕ) (periods : List (List ℕ)) (columns : List Column) (rows : List Row) (nodes : List (Option Node)) (scenarios : List Scenario)
    → IsProgram p → objective ≡ p.objective → rhs ≡ p.rhs → periods ≡ p.periods → columns ≡ map (derived_column kind) p.columns
    → rows ≡ p.rows → nodes ≡ map (derived_place kind) p.nodes → scenarios ≡ p.scenarios
    → IsProgram (record { objective = objective; rhs = rhs; periods = periods; columns = columns; rows = rows; nodes = nodes; scenarios = scenarios })
derived_parts kind p objective rhs periods columns rows nodes scenarios i a b c d e f g = rw (a, b, c, d, e, f, g) (derived_keeps kind p i)
