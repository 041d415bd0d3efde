-- The program keeps what programs keep.
use Rattle.std.proofs.Common.{◌≡◌, ℕ, zero, suc, ◌+◌, ◌<◌, ◌^◌, Bool, true, false, ◌||◌, ◌&&◌, eqb, leb, List, [], ◌∷◌, ◌++◌, length, map, Option, Some, None, Result, Ok, Err}
use Rattle.std.proofs.Common.{refl, sym, ap, ap₂, subst, ◌∙◌, arith, eqb-true, length-append}
use Rattle.std.proofs.lemmas.Bool.{eq-eqb, le-leb}
use Rattle.rationals.specs.Choices.{pick}
use Rattle.rationals.specs.Sparse.{Entry}
use Rattle.rationals.specs.Forms.{put}
use Rattle.rationals.specs.Passes.{Operation, then_value}
use Rattle.rationals.proofs.WalkLaws.{ended}
use Rattle.smps_words.specs.Field.{IsField}
use Rattle.smps_words.specs.Names.{same_name}
use Rattle.scen_defs.specs.declared.program.Column.{Column}
use Rattle.scen_defs.specs.declared.program.Row.{Row}
use Rattle.scen_defs.specs.declared.program.NodeRow.{NodeRow}
use Rattle.scen_defs.specs.Lists.{Each, places, passes_at}
use Rattle.scen_defs.specs.Names.{column_names, row_names}
use Rattle.scen_defs.specs.Program.{Node, Scenario, Program, is_live, node_at}
use Rattle.scen_defs.specs.Valid.{Differ, AreNames, Lives, IsProgram, HasParent, Follows, FitsColumn, FitsRow, FitsNode, FitsScenario, row_at, HasEnds}
use Rattle.scen_defs.proofs.SumLaws.{each-map}
use Rattle.scen_defs.proofs.Subtrees.{no}
use Rattle.scen_defs.proofs.Valid.{each-place}
use Rattle.scen_defs.proofs.ValueLaws.{each-push}
use Rattle.edit_defs.proofs.Lists.{passes-within, passes-left, passes-right, places-append, each-append, each-unmapped}
use Rattle.tail_risk.specs.TailNames.{h_name, u_name, r_name, has_name, has_tail_names}
use Rattle.tail_risk.specs.TailRow.{h_column, u_column, one_at, path_costs, tail_row, with_other_signs}
use Rattle.tail_risk.specs.TailProgram.{last_stage, h_added, u_added, r_added, scaled_form, added_costs, added_row, node_with, tail_place, tail_nodes, with_nodes}
use Rattle.tail_risk.specs.TailWalk.{scaled_form_walk, node_walk, place_walk, nodes_walk}
use Rattle.tail_risk.specs.declared.rates.Rates.{Rates}
use Rattle.tail_risk.proofs.Merges.{turned_each}
use Rattle.tail_risk.proofs.Scaled.{scaled_each, put_each, scaled_walk_is}
use Rattle.tail_risk.proofs.PathLaws.{path_up_to}

-- ---- names that differ, and others behind them
either_false : (a b : Bool) → (a || b) ≡ false → (a ≡ false) × (b ≡ false)
either_false true b h = absurd (no h refl)
either_false false b h = (refl, h)

not_named : (name : List ℕ) (names : List (List ℕ)) → has_name name names ≡ false → Each (λ other. name ≡ other → ⊥) names
not_named name [] h = tt
not_named name (other ∷ names) h =
    let b = either_false (same_name other name) (has_name name names) h in
    ((λ e. no (ap (λ (x : List ℕ). same_name x name) e ∙ b.0) (itself name)), not_named name names b.1)
  where
    itself : (name : List ℕ) → same_name name name ≡ true
    itself [] = refl
    itself (x ∷ xs) = ap₂ (λ a b. a && b) (eq-eqb x x refl) (itself xs)

differ_behind : (names : List (List ℕ)) (name : List ℕ) → Differ names → Each (λ other. name ≡ other → ⊥) names → Differ (names ++ name ∷ [])
differ_behind [] name d n = (tt, tt)
differ_behind (other ∷ names) name d n = (each-push (λ x. x ≡ other → ⊥) names name d.0 n.0, differ_behind names name d.1 n.1)

named_behind : (names : List (List ℕ)) (name : List ℕ) → AreNames names → IsField name → has_name name names ≡ false → AreNames (names ++ name ∷ [])
named_behind names name a f h = record { fields = each-push IsField names name a.fields f; differ = differ_behind names name a.differ (not_named name names h) }

h_field : IsField h_name
h_field = record { some = omega arith; unbroken = (refl, (refl, (refl, (refl, (refl, (refl, tt)))))) }

u_field : IsField u_name
u_field = record { some = omega arith; unbroken = (refl, (refl, (refl, (refl, (refl, (refl, tt)))))) }

r_field : IsField r_name
r_field = record { some = omega arith; unbroken = (refl, (refl, (refl, (refl, (refl, (refl, tt)))))) }

has_behind : (name other : List ℕ) (names : List (List ℕ)) → has_name name names ≡ false → same_name other name ≡ false → has_name name (names ++ other ∷ []) ≡ false
has_behind name other [] h k = ap (λ b. b || false) k
has_behind name other (first ∷ names) h k =
    let b = either_false (same_name first name) (has_name name names) h in
    ap₂ (λ x y. x || y) b.0 (has_behind name other names b.1 k)

names_append : {A : Type 0} (f : A → List ℕ) (xs ys : List A) → map f (xs ++ ys) ≡ map f xs ++ map f ys
names_append f [] ys = refl
names_append f (x ∷ xs) ys = ap (λ l. f x ∷ l) (names_append f xs ys)

-- ---- the nodes
-- what stands at a number
place_live : (p : Program) (rates : Rates) (n : ℕ) → is_live (tail_place p rates n) ≡ passes_at is_live n p.nodes
place_live p rates n = go (passes_at is_live n p.nodes)
  where
    go : (b : Bool) → is_live (pick b (Some (node_with p rates n (scaled_form rates.old (node_at p.nodes n).cost))) None) ≡ b
    go true = refl
    go false = refl

module _ (p : Program) (rates : Rates) where
  abbrev made : ℕ → Node
  made n = node_with p rates n (scaled_form rates.old (node_at p.nodes n).cost)

  within : (n count k : ℕ) → passes_at is_live k (tail_nodes p rates n count) ≡ true → k < count
  within n zero k h = absurd (no refl h)
  within n (suc count) zero h = omega arith
  within n (suc count) (suc k) h = let l : k < count = within (suc n) count k h in omega (arith, l)

  live_from : (n count k m : ℕ) → m ≡ n + k → k < count → passes_at is_live k (tail_nodes p rates n count) ≡ passes_at is_live m p.nodes
  live_from n zero k m e h = absurd (omega (arith, h))
  live_from n (suc count) zero m e h = place_live p rates n ∙ ap (λ k. passes_at is_live k p.nodes) (let d : n ≡ m = omega (arith, e) in d)
  live_from n (suc count) (suc k) m e h = live_from (suc n) count k m (omega (arith, e)) (omega (arith, h))

  node_from : (n count k m : ℕ) → m ≡ n + k → k < count → passes_at is_live m p.nodes ≡ true → node_at (tail_nodes p rates n count) k ≡ made m
  node_from n zero k m e h l = absurd (omega (arith, h))
  node_from n (suc count) zero m e h l =
      let d : n ≡ m = omega (arith, e) in
      let live : passes_at is_live n p.nodes ≡ true = ap (λ k. passes_at is_live k p.nodes) d ∙ l in
      ap (λ b. node_at (pick b (Some (made n)) None ∷ tail_nodes p rates (suc n) count) 0) live ∙ ap made d
  node_from n (suc count) (suc k) m e h l = behind (tail_place p rates n) (tail_nodes p rates (suc n) count) k ∙ node_from (suc n) count k m (omega (arith, e)) (omega (arith, h)) l
    where
      behind : (place : Option Node) (nodes : List (Option Node)) (k : ℕ) → node_at (place ∷ nodes) (suc k) ≡ node_at nodes k
      behind None nodes k = refl
      behind (Some x) nodes k = refl

  length_from : (n count : ℕ) → length (tail_nodes p rates n count) ≡ count
  length_from n zero = refl
  length_from n (suc count) = ap suc (length_from (suc n) count)

  abbrev nodes : List (Option Node)
  nodes = tail_nodes p rates 0 (length p.nodes)

  abbrev pub q : Program
  q = with_nodes p nodes

  -- the nodes that live are the same, and this is what they are
  pub lives_there : (n : ℕ) → Lives p n → Lives q n
  lives_there n l = live_from 0 (length p.nodes) n n (omega arith) (passes-within is_live n p.nodes l) ∙ l

  pub lives_here : (n : ℕ) → Lives q n → Lives p n
  lives_here n l = sym (live_from 0 (length p.nodes) n n (omega arith) (within 0 (length p.nodes) n l)) ∙ l

  pub node_there : (n : ℕ) → Lives p n → node_at nodes n ≡ made n
  node_there n l = node_from 0 (length p.nodes) n n (omega arith) (passes-within is_live n p.nodes l) l

  pub nodes_long : length nodes ≡ length p.nodes
  nodes_long = length_from 0 (length p.nodes)

  -- ---- columns
  abbrev pub columns : List Column
  columns = p.columns ++ h_added ∷ u_added p ∷ []

  pub column_left : (test : Column → Bool) (j : ℕ) → passes_at test j p.columns ≡ true → passes_at test j columns ≡ true
  column_left test j h = passes-left test j p.columns (h_added ∷ u_added p ∷ []) (passes-within test j p.columns h) ∙ h

  pub h_passes : (test : Column → Bool) → passes_at test (h_column p) columns ≡ test h_added
  h_passes test = passes-right test 0 (h_column p) p.columns (h_added ∷ u_added p ∷ []) (omega arith)

  pub u_passes : (test : Column → Bool) → passes_at test (u_column p) columns ≡ test (u_added p)
  u_passes test = passes-right test 1 (u_column p) p.columns (h_added ∷ u_added p ∷ []) (omega arith)

  -- ---- costs
  added_each : (P : ℕ → Type 0) (s : ℕ) → (eqb 0 s ≡ true → P (h_column p)) → (eqb (last_stage p) s ≡ true → P (u_column p)) → Each (λ (e : Entry). P e.column) (added_costs p rates s)
  added_each P s a b = each-append (λ (e : Entry). P e.column) (pick (eqb 0 s) (put (h_column p) rates.h []) []) (pick (eqb (last_stage p) s) (put (u_column p) rates.u []) []) (go (eqb 0 s) refl) (go' (eqb (last_stage p) s) refl)
    where
      go : (t : Bool) → eqb 0 s ≡ t → Each (λ (e : Entry). P e.column) (pick t (put (h_column p) rates.h []) [])
      go true e = put_each P (h_column p) rates.h [] (a e) tt
      go false e = tt

      go' : (t : Bool) → eqb (last_stage p) s ≡ t → Each (λ (e : Entry). P e.column) (pick t (put (u_column p) rates.u []) [])
      go' true e = put_each P (u_column p) rates.u [] (b e) tt
      go' false e = tt

  module _ (i : IsProgram p) where
    -- ---- rows
    old_row : (r : NodeRow) → r.row < length p.rows → row_at q.rows r.row ≡ row_at p.rows r.row
    old_row r h = go r.row p.rows h
      where
        go : (k : ℕ) (rows : List Row) → k < length rows → row_at (rows ++ r_added p ∷ []) k ≡ row_at rows k
        go k [] h = absurd (omega (arith, h))
        go zero (row ∷ rows) h = refl
        go (suc k) (row ∷ rows) h = go k rows (omega (arith, h))

    new_row : row_at q.rows (length p.rows) ≡ r_added p
    new_row = go p.rows
      where
        go : (rows : List Row) → row_at (rows ++ r_added p ∷ []) (length rows) ≡ r_added p
        go [] = refl
        go (row ∷ rows) = go rows

    module _ (n : ℕ) (l : Lives p n) where
      abbrev x : Node
      x = node_at p.nodes n

      f : FitsNode p n x
      f = i.nodes n l

      small_rows : Each (λ (r : NodeRow). r.row < length p.rows) x.rows
      small_rows = each-unmapped (λ (k : ℕ). k < length p.rows) (λ (r : NodeRow). r.row) x.rows
          (subst (Each (λ (k : ℕ). k < length p.rows)) (sym f.numbers) (each-place (λ (k : ℕ). k < length p.rows) (λ (r : Row). eqb r.stage x.stage) p.rows (λ k h. passes-within (λ (r : Row). eqb r.stage x.stage) k p.rows h)))

      kept_row : (r : NodeRow) → r.row < length p.rows → FitsRow p x.stage r → FitsRow q x.stage r
      kept_row r small h = record {
        entries = each-map (λ e k. column_left (λ (c : Column). leb c.stage x.stage) e.column k) r.entries h.entries;
        in_order = h.in_order;
        ends = subst (λ (row : Row). HasEnds row r) (sym (old_row r small)) h.ends;
      }

      kept_rows : (rows : List NodeRow) → Each (λ (r : NodeRow). r.row < length p.rows) rows → Each (FitsRow p x.stage) rows → Each (FitsRow q x.stage) rows
      kept_rows [] a b = tt
      kept_rows (r ∷ rows) a b = (kept_row r a.0 b.0, kept_rows rows a.1 b.1)

      is_last : eqb (last_stage p) x.stage ≡ true → FitsRow q x.stage (tail_row p n)
      is_last e =
          let s : last_stage p ≡ x.stage = eqb-true (last_stage p) x.stage e in
          record {
            entries = each-append (λ (e : Entry). passes_at (λ (c : Column). leb c.stage x.stage) e.column columns ≡ true) (with_other_signs (path_costs p.nodes n)) (one_at (h_column p) ∷ one_at (u_column p) ∷ [])
                (turned_each (λ j. passes_at (λ (c : Column). leb c.stage x.stage) j columns ≡ true) (path_costs p.nodes n)
                (each-map (λ e k. column_left (λ (c : Column). leb c.stage x.stage) e.column k) (path_costs p.nodes n) (path_up_to p i n l)))
                (h_passes (λ (c : Column). leb c.stage x.stage) ∙ le-leb 0 x.stage (omega arith), (u_passes (λ (c : Column). leb c.stage x.stage) ∙ le-leb (last_stage p) x.stage (omega (arith, s)), tt));
            in_order = tt;
            ends = subst (λ (row : Row). HasEnds row (tail_row p n)) (sym new_row) (record { low = refl; high = refl });
          }

      row_there : (b : Bool) → eqb (last_stage p) x.stage ≡ b → Each (FitsRow q x.stage) (pick b (tail_row p n ∷ []) [])
      row_there true e = (is_last e, tt)
      row_there false e = tt

      numbers_there : map (λ (r : NodeRow). r.row) (x.rows ++ added_row p n x.stage) ≡ places (λ (r : Row). eqb r.stage x.stage) 0 q.rows
      numbers_there =
          row_numbers x.rows (added_row p n x.stage)
          ∙ ap₂ (λ a b. a ++ b) f.numbers (go (eqb (last_stage p) x.stage))
          ∙ sym (places-append (λ (r : Row). eqb r.stage x.stage) 0 (length p.rows) p.rows (r_added p ∷ []) (omega arith))
        where
          row_numbers : (rows more : List NodeRow) → map (λ (r : NodeRow). r.row) (rows ++ more) ≡ map (λ (r : NodeRow). r.row) rows ++ map (λ (r : NodeRow). r.row) more
          row_numbers [] more = refl
          row_numbers (r ∷ rows) more = ap (λ k. r.row ∷ k) (row_numbers rows more)

          go : (b : Bool) → map (λ (r : NodeRow). r.row) (pick b (tail_row p n ∷ []) []) ≡ elim b [ true ↦ length p.rows ∷ [] | false ↦ [] ]
          go true = refl
          go false = refl

      parent_there : (parent : Option ℕ) → HasParent p n x.stage parent → HasParent q n x.stage parent
      parent_there None h = h
      parent_there (Some m) h = record {
        live = lives_there m h.live;
        earlier = h.earlier ∙ ap (λ (y : Node). suc y.stage) (sym (node_there m h.live));
        smaller = h.smaller;
      }

      pub fits_there : FitsNode q n (made n)
      fits_there = record {
        stage = f.stage;
        parent = parent_there x.parent f.parent;
        cost = each-append (λ (e : Entry). passes_at (λ (c : Column). eqb c.stage x.stage) e.column columns ≡ true) (scaled_form rates.old x.cost) (added_costs p rates x.stage)
            (scaled_each (λ j. passes_at (λ (c : Column). eqb c.stage x.stage) j columns ≡ true) rates.old x.cost
            (each-map (λ e k. column_left (λ (c : Column). eqb c.stage x.stage) e.column k) x.cost f.cost))
            (added_each (λ j. passes_at (λ (c : Column). eqb c.stage x.stage) j columns ≡ true) x.stage
            (λ e. h_passes (λ (c : Column). eqb c.stage x.stage) ∙ e) (λ e. u_passes (λ (c : Column). eqb c.stage x.stage) ∙ e));
        numbers = numbers_there;
        rows = each-append (FitsRow q x.stage) x.rows (added_row p n x.stage) (kept_rows x.rows small_rows f.rows) (row_there (eqb (last_stage p) x.stage) refl);
      }

    follows_there : (s : ℕ) (above : Option ℕ) (path : List ℕ) → Follows p s above path → Follows q s above path
    follows_there s above [] h = h
    follows_there s above (n ∷ path) h =
        let same : node_at nodes n ≡ made n = node_there n h.0 in
        (lives_there n h.0, ap (λ (y : Node). y.stage) same ∙ h.1, ap (λ (y : Node). y.parent) same ∙ h.2, follows_there (suc s) (Some n) path h.3)

    column_there : (c : Column) → FitsColumn p c → FitsColumn q c
    column_there c h = record { stage = h.stage; in_order = h.in_order }

    last_within : last_stage p < length p.periods
    last_within = let some = i.periods in omega (arith, some)

    pub tail_keeps : length p.columns + 2 < 2 ^ 32 → length p.rows + 1 < 2 ^ 32 → has_tail_names p ≡ false → IsProgram q
    tail_keeps few_columns few_rows free =
        let some = i.periods in
        let a = either_false (has_name h_name (column_names p.columns)) (has_name u_name (column_names p.columns) || has_name r_name (row_names p.rows)) free in
        let b = either_false (has_name u_name (column_names p.columns)) (has_name r_name (row_names p.rows)) a.1 in
        let long_columns = length-append p.columns (h_added ∷ u_added p ∷ []) in
        let long_rows = length-append p.rows (r_added p ∷ []) in
        let long = nodes_long in
        let few = i.small.nodes in
        record {
          small = record {
            columns = omega (arith, few_columns, long_columns);
            rows = omega (arith, few_rows, long_rows);
            nodes = omega (arith, long, few);
            scenarios = i.small.scenarios;
          };
          names = record {
            periods = i.names.periods;
            columns = subst AreNames (append_two (column_names p.columns) ∙ sym (names_append (λ (c : Column). c.name) p.columns (h_added ∷ u_added p ∷ [])))
                (named_behind (column_names p.columns ++ h_name ∷ []) u_name (named_behind (column_names p.columns) h_name i.names.columns h_field a.0) u_field (has_behind u_name h_name (column_names p.columns) b.0 refl));
            rows = subst AreNames (sym (names_append (λ (r : Row). r.name) p.rows (r_added p ∷ []))) (named_behind (row_names p.rows) r_name i.names.rows r_field b.1);
            scenarios = i.names.scenarios;
          };
          periods = i.periods;
          few_periods = i.few_periods;
          row_stages = each-push (λ (r : Row). r.stage < length p.periods) p.rows (r_added p) i.row_stages last_within;
          columns = each-append (FitsColumn q) p.columns (h_added ∷ u_added p ∷ []) (each-map column_there p.columns i.columns)
              (record { stage = some; in_order = tt }, (record { stage = last_within; in_order = tt }, tt));
          nodes = λ n live. let l : Lives p n = lives_here n live in subst (FitsNode q n) (sym (node_there n l)) (fits_there n l);
          scenarios = each-map (λ (s : Scenario) (h : FitsScenario p s). record { positive = h.positive; path = follows_there 0 None s.path h.path }) p.scenarios i.scenarios;
          reached = λ n live. i.reached n (lives_here n live);
          certain = i.certain;
        }
      where
        append_two : (names : List (List ℕ)) → (names ++ h_name ∷ []) ++ u_name ∷ [] ≡ names ++ h_name ∷ u_name ∷ []
        append_two [] = refl
        append_two (x ∷ names) = ap (λ l. x ∷ l) (append_two names)

-- ---- the walk ends in these nodes
pub place_is : (p : Program) (rates : Rates) (n : ℕ) (place : Option Node) → place_walk p rates n ≡ Ok place → place ≡ tail_place p rates n
place_is p rates n place e = go (passes_at is_live n p.nodes) e
  where
    node : (walk : Result (List Entry) Operation) → scaled_form_walk rates.old (node_at p.nodes n).cost ≡ walk → then_value Some (then_value (node_with p rates n) walk) ≡ Ok place
        → place ≡ Some (node_with p rates n (scaled_form rates.old (node_at p.nodes n).cost))
    node (Ok f) is h =
        let same : Some (node_with p rates n f) ≡ place = cc in
        sym same ∙ ap (λ (g : List Entry). Some (node_with p rates n g)) (scaled_walk_is rates.old (node_at p.nodes n).cost f is)
    node (Err o) is h = absurd (cc)

    go : (b : Bool) → pick b (then_value Some (node_walk p rates n)) (Ok None) ≡ Ok place → place ≡ pick b (Some (node_with p rates n (scaled_form rates.old (node_at p.nodes n).cost))) None
    go true h = node (scaled_form_walk rates.old (node_at p.nodes n).cost) refl h
    go false h = let same : None ≡ place = cc in sym same

pub nodes_are : (p : Program) (rates : Rates) (n count : ℕ) (all : List (Option Node)) → nodes_walk p rates n count ≡ Ok all → all ≡ tail_nodes p rates n count
nodes_are p rates n zero all e = let same : [] ≡ all = cc in sym same
nodes_are p rates n (suc count) all e =
    let m = ended (place_walk p rates n) (λ place. then_value (λ rest. place ∷ rest) (nodes_walk p rates (suc n) count)) all e in
    go (nodes_walk p rates (suc n) count) refl (λ rest is. nodes_are p rates (suc n) count rest is) m.result (place_is p rates n m.result m.first_is) m.next_is
  where
    go : (walk : Result (List (Option Node)) Operation) → nodes_walk p rates (suc n) count ≡ walk
        → ((rest : List (Option Node)) → nodes_walk p rates (suc n) count ≡ Ok rest → rest ≡ tail_nodes p rates (suc n) count)
        → (place : Option Node) → place ≡ tail_place p rates n → then_value (λ rest. place ∷ rest) walk ≡ Ok all → all ≡ tail_place p rates n ∷ tail_nodes p rates (suc n) count
    go (Ok rest) is again place same h = let whole : place ∷ rest ≡ all = cc in sym whole ∙ ap₂ (λ x l. x ∷ l) same (again rest is)
    go (Err o) is again place same h = absurd (cc)
