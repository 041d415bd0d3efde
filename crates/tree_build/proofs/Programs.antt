-- The program that is built keeps what programs keep.
use Rattle.std.proofs.Common.{◌≡◌, ◌∙◌, ap, ap₂, sym, refl, subst, ℕ, zero, suc, ◌+◌, ◌-◌, ◌<◌, ◌≤◌, ◌^◌, Bool, true, false, ◌||◌, eqb, leb, List, [], ◌∷◌, map, length, get_or, nat_eq, nat_lt, arith, Option, Some, None, if◌then◌else◌}
use Rattle.std.proofs.lemmas.List.{length-map}
use Rattle.std.proofs.lemmas.Bool.{eq-eqb, le-leb}
use Rattle.std.proofs.lemmas.Bool.Decides.{nat_tests}
use Rattle.rationals.specs.Rational.{one_ℚ}
use Rattle.rationals.specs.Sums.{sum_ℚ}
use Rattle.rationals.specs.Sparse.{Entry as Term}
use Rattle.core_defs.specs.declared.parts.ColumnDef.{ColumnDef}
use Rattle.core_defs.specs.declared.parts.RowDef.{RowDef}
use Rattle.core_defs.specs.declared.program.Core.{Core}
use Rattle.time_defs.specs.Means.{Stages}
use Rattle.time_defs.specs.Periods.{ArePeriods}
use Rattle.stoch_defs.specs.Entries.{no_row}
use Rattle.scen_defs.specs.declared.program.Column.{Column}
use Rattle.scen_defs.specs.declared.program.Row.{Row}
use Rattle.scen_defs.specs.declared.program.NodeRow.{NodeRow}
use Rattle.rationals.specs.Intervals.{InOrder}
use Rattle.rationals.specs.Choices.{pick}
use Rattle.scen_defs.specs.Lists.{Each, is_in, places, passes_at}
use Rattle.scen_defs.specs.Program.{Node, Scenario, Program, node_at}
use Rattle.smps_words.specs.Field.{IsField}
use Rattle.scen_defs.specs.Valid.{Lives, HasParent, FitsRow, FitsNode, Follows, FitsScenario, is_reached, FitsColumn, row_at, has_low, has_high, AreNames, IsSmall, HasNames, IsProgram}
use Rattle.scen_defs.proofs.SumLaws.{each-map, each-both}
use Rattle.scen_defs.proofs.Valid.{each-place}
use Rattle.scen_tree.specs.Trees.{position_by}
use Rattle.smps_build.proofs.CoreFits.{core_fits}
use Rattle.build_defs.specs.Nodes.{rows_at}
use Rattle.build_defs.specs.Built.{columns_from, rows_from, program_of, most_nodes, most_scenarios}
use Rattle.build_defs.specs.Scenarios.{stages_from}
use Rattle.build_defs.proofs.EachLemmas.{each_flat}
use Rattle.stoch_defs.specs.Random.{Block, Branch}
use Rattle.stoch_defs.specs.Random.Random.{Blocks, Branches}
use Rattle.tree_build.specs.declared.wheels.Wheel.{Wheel}
use Rattle.tree_build.specs.Wheels.{wheels_at, wheels_of, product, sizes_of}
use Rattle.tree_build.specs.Branches.{branch_rows}
use Rattle.tree_build.specs.Limits.{are_over}
use Rattle.tree_build.specs.Walks.{debuts_of, paths_of, block_rows, block_all, branch_all}
use Rattle.tree_build.specs.Law.{IsBlock, IsBranch, BuiltArePrograms}
use Rattle.tree_build.specs.declared.numbering.Debut.{Debut}
use Rattle.tree_build.specs.Values.{Values}
use Rattle.tree_build.specs.Nodes.{no_values, node_in}
use Rattle.tree_build.specs.Finish.{parent_by, parent_in, no_debut}
use Rattle.tree_build.proofs.NameLaws.{numbered_names}
use Rattle.tree_build.proofs.Lists.{each_at, each_from, passes_get}
use Rattle.tree_build.proofs.Numbers.{IsNumber, Stands, stands_at, paths_length}
use Rattle.tree_build.proofs.Marks.{paths_have_keys, debuts_own, AllHaveKeys, key_at, keys_at, AreOwn, same_node}
use Rattle.tree_build.proofs.Nests.{Nest, AreLater, blocks_nest, AreLaterBranches, branches_nest}
use Rattle.tree_build.proofs.ValueLaws.{IsOf, IsUpTo}
use Rattle.tree_build.proofs.NodeValues.{stages_low}
use Rattle.tree_build.proofs.NodeLaws.{IsMadeRow, rows_made, number_of_row, numbers_made, made_length}
use Rattle.tree_build.proofs.ScenarioLaws.{block_rows_length, rows_length}
use Rattle.tree_build.proofs.Paths.{IsPositive, path_of, is_in_at}
use Rattle.tree_build.proofs.Made.{Parts, positions_of, there, within, Made, made_of_blocks, made_of_branches}

-- ---- columns and rows by their stages

bounds_in_order : (p : Stages) (k : ℕ) (defs : List ColumnDef) → Each (λ (c : ColumnDef). InOrder c.lower c.upper) defs → Each (λ (c : Column). InOrder c.lower c.upper) (columns_from p k defs)
bounds_in_order p k [] all = tt
bounds_in_order p k (c ∷ defs) all = (all.0, bounds_in_order p (k + 1) defs all.1)

-- a column that is there passes a test that its stage passes
column_passes : (p : Stages) (k j : ℕ) (test : ℕ → Bool) (defs : List ColumnDef) → j < length defs → test (get_or p.columns (k + j) 0) ≡ true → passes_at (λ (c : Column). test c.stage) j (columns_from p k defs) ≡ true
column_passes p k j test [] below is = absurd (omega (arith, below))
column_passes p k zero test (c ∷ defs) below is = ap (λ (m : ℕ). test (get_or p.columns m 0)) (let e : k ≡ k + 0 = omega arith in e) ∙ is
column_passes p k (suc j) test (c ∷ defs) below is =
    column_passes p (k + 1) j test defs (omega (arith, below)) (ap (λ (m : ℕ). test (get_or p.columns m 0)) (let e : k + 1 + j ≡ k + suc j = omega arith in e) ∙ is)

columns_fit : (p : Stages) (n k : ℕ) (defs : List ColumnDef) → ((j : ℕ) → j < length defs → get_or p.columns (k + j) 0 < n) → Each (λ (c : Column). c.stage < n) (columns_from p k defs)
columns_fit p n k [] low = tt
columns_fit p n k (c ∷ defs) low = (
  subst (λ (m : ℕ). get_or p.columns m 0 < n) (let e : k + 0 ≡ k = omega arith in e) (low 0 (omega arith)),
  columns_fit p n (k + 1) defs (λ j below. subst (λ (m : ℕ). get_or p.columns m 0 < n) (let e : k + suc j ≡ k + 1 + j = omega arith in e) (low (suc j) (omega (arith, below)))),
)

rows_fit : (p : Stages) (n k : ℕ) (defs : List RowDef) → ((i : ℕ) → i < length defs → get_or p.rows (k + i) 0 < n) → Each (λ (r : Row). r.stage < n) (rows_from p k defs)
rows_fit p n k [] low = tt
rows_fit p n k (r ∷ defs) low = (
  subst (λ (m : ℕ). get_or p.rows m 0 < n) (let e : k + 0 ≡ k = omega arith in e) (low 0 (omega arith)),
  rows_fit p n (k + 1) defs (λ i below. subst (λ (m : ℕ). get_or p.rows m 0 < n) (let e : k + suc i ≡ k + 1 + i = omega arith in e) (low (suc i) (omega (arith, below)))),
)

abbrev with_place : Bool → ℕ → List ℕ → List ℕ
with_place b k xs = elim b [ true ↦ k ∷ xs | false ↦ xs ]

-- the rows of a stage by their numbers
rows_of_stage : (p : Stages) (stage k : ℕ) (defs : List RowDef) (stages : List ℕ) → length stages ≡ length defs → ((i : ℕ) → get_or stages i 0 ≡ get_or p.rows (k + i) 0) →
    places (λ at. nat_eq at stage) k stages ≡ places (λ (r : Row). eqb r.stage stage) k (rows_from p k defs)
rows_of_stage p stage k [] [] same read = refl
rows_of_stage p stage k [] (at ∷ stages) same read = absurd (omega (arith, same))
rows_of_stage p stage k (r ∷ defs) [] same read = absurd (omega (arith, same))
rows_of_stage p stage k (r ∷ defs) (at ∷ stages) same read =
    go (nat_eq at stage) (eqb (get_or p.rows k 0) stage) (tests at (get_or p.rows k 0) stage here)
    (rows_of_stage p stage (k + 1) defs stages (omega (arith, same)) (λ i. read (suc i) ∙ ap (λ (m : ℕ). get_or p.rows m 0) (let e : k + suc i ≡ k + 1 + i = omega arith in e)))
  where
    here : at ≡ get_or p.rows k 0
    here = read 0 ∙ ap (λ (m : ℕ). get_or p.rows m 0) (let e : k + 0 ≡ k = omega arith in e)

    tests : (a b s : ℕ) → a ≡ b → nat_eq a s ≡ eqb b s
    tests a b s e = ap (λ n. nat_eq n s) e

    next : places (λ at. nat_eq at stage) (k + 1) stages ≡ places (λ (r : Row). eqb r.stage stage) (k + 1) (rows_from p (k + 1) defs) →
        places (λ at. nat_eq at stage) (suc k) stages ≡ places (λ (r : Row). eqb r.stage stage) (suc k) (rows_from p (k + 1) defs)
    next h = let e : suc k ≡ k + 1 = omega arith in ap (λ n. places (λ at. nat_eq at stage) n stages) e ∙ h ∙ ap (λ n. places (λ (r : Row). eqb r.stage stage) n (rows_from p (k + 1) defs)) (sym e)

    go : (b a : Bool) → b ≡ a → places (λ at. nat_eq at stage) (k + 1) stages ≡ places (λ (r : Row). eqb r.stage stage) (k + 1) (rows_from p (k + 1) defs) →
        with_place b k (places (λ at. nat_eq at stage) (suc k) stages) ≡ with_place a k (places (λ (r : Row). eqb r.stage stage) (suc k) (rows_from p (k + 1) defs))
    go b a e rest = ap₂ (λ (c : Bool) (xs : List ℕ). with_place c k xs) e (next rest)

row_read : (p : Stages) (k i : ℕ) (defs : List RowDef) → i < length defs → ((row_at (rows_from p k defs) i).kind ≡ (get_or defs i no_row).kind) × ((row_at (rows_from p k defs) i).range ≡ (get_or defs i no_row).range)
row_read p k i [] below = absurd (omega (arith, below))
row_read p k zero (r ∷ defs) below = (refl, refl)
row_read p k (suc i) (r ∷ defs) below = row_read p (k + 1) i defs (omega (arith, below))

-- ---- paths by their nodes

-- the node before place i
abbrev before : Option ℕ → List ℕ → ℕ → Option ℕ
before above xs zero = above
before above xs (suc i) = Some (get_or xs i 0)

record IsStep (program : Program) (s n : ℕ) (above : Option ℕ) : Type 0 where
  lives : Lives program n
  stage : (node_at program.nodes n).stage ≡ s
  parent : (node_at program.nodes n).parent ≡ above

follows : (program : Program) (k : ℕ) (above : Option ℕ) (xs : List ℕ) → length program.periods ≡ k + length xs → ((i : ℕ) → i < length xs → IsStep program (k + i) (get_or xs i 0) (before above xs i)) → Follows program k above xs
follows program k above [] same steps = omega (arith, same)
follows program k above (n ∷ xs) same steps =
    let h = steps 0 (omega arith) in (
      h.lives,
      h.stage ∙ (let e : k + 0 ≡ k = omega arith in e),
      h.parent,
      follows program (suc k) (Some n) xs (omega (arith, same))
          (λ i below. subst (λ (s : ℕ). IsStep program s (get_or xs i 0) (before (Some n) xs i)) (let e : k + suc i ≡ suc k + i = omega arith in e)
          (subst (IsStep program (k + suc i) (get_or xs i 0)) (shifted i) (steps (suc i) (omega (arith, below))))),
    )
  where
    shifted : (i : ℕ) → before above (n ∷ xs) (suc i) ≡ before (Some n) xs i
    shifted zero = refl
    shifted (suc i) = refl

parent_of_position : (o : Option ℕ) → parent_in (position_by o) ≡ o
parent_of_position None = refl
parent_of_position (Some m) = refl

-- what the rows of keys say of paths and nodes
pub record Rows (count : ℕ) (rows : List (List ℕ)) (debuts : List Debut) (paths : List (List ℕ)) : Type 0 where
  pub keys : AllHaveKeys debuts rows paths
  pub own : AreOwn debuts
  pub nest : Nest count rows
  pub same : length rows ≡ length paths
  pub long : Each (λ (path : List ℕ). length path ≡ count) paths

module _ (core : Core) (p : Stages) (rows : List (List ℕ)) (debuts : List Debut) (paths : List (List ℕ)) (all : List Values) (scenarios : List Scenario) (nodes : List (Option Node))
    (parts : Parts core p debuts paths all scenarios nodes) (more : Rows (length p.names) rows debuts paths) (periods : ArePeriods p) where
  abbrev made : Program
  made = program_of core p nodes scenarios

  lives_at : (n : ℕ) → n < length debuts → Lives made n
  lives_at n below = (there core p debuts paths all scenarios nodes parts n below).live

  -- a node on a path
  on_path : (s k : ℕ) → s < length paths → k < length (get_or paths s []) → IsNumber debuts (0 + k) (get_or (get_or paths s []) k 0)
  on_path s k below inside = stands_at debuts 0 (get_or paths s []) k (each_at (Stands debuts 0) paths s [] parts.outlines.stands below) inside

  path_key : (s k : ℕ) → s < length paths → k < length (get_or paths s []) → (get_or debuts (get_or (get_or paths s []) k 0) no_debut).key ≡ get_or (get_or rows s []) k 0
  path_key s k below inside = key_at debuts (get_or rows s []) (get_or paths s []) k (keys_at debuts rows paths s more.keys below) inside

  path_long : (s : ℕ) → s < length paths → length (get_or paths s []) ≡ length p.names
  path_long s below = each_at (λ (path : List ℕ). length path ≡ length p.names) paths s [] more.long below

  -- the node of the stage before, on the path where a node first appears and on every path through it
  parent_is : (s k : ℕ) → s < length paths → suc k < length p.names → node_in paths (get_or debuts (get_or (get_or paths s []) (suc k) 0) no_debut).scenario k ≡ get_or (get_or paths s []) k 0
  parent_is s k below low =
      let n = get_or (get_or paths s []) (suc k) 0 in
      let size = path_long s below in
      let here = on_path s (suc k) below (omega (arith, size, low)) in
      let on = parts.outlines.starts n here.within in
      let t = on.place in
      let scenario : (get_or debuts n no_debut).scenario ≡ t = omega (arith, on.scenario) in
      let place : on.appears.place ≡ suc k = omega (arith, on.appears.stage, here.stage_is) in
      let other_size = path_long t on.within in
      let reads : get_or (get_or paths t []) (suc k) 0 ≡ n = ap (λ (i : ℕ). get_or (get_or paths t []) i 0) (sym place) ∙ on.appears.number in
      let keys : get_or (get_or rows t []) (suc k) 0 ≡ get_or (get_or rows s []) (suc k) 0 =
      sym (path_key t (suc k) on.within (omega (arith, other_size, low))) ∙ ap (λ (m : ℕ). (get_or debuts m no_debut).key) reads ∙ path_key s (suc k) below (omega (arith, size, low)) in
      let nested = more.nest.nested t s k (omega (arith, on.within, more.same)) (omega (arith, below, more.same)) low keys in
      let one = on_path t k on.within (omega (arith, other_size, low)) in
      let other = on_path s k below (omega (arith, size, low)) in
      ap (λ (i : ℕ). node_in paths i k) scenario
      ∙ same_node debuts (get_or (get_or paths t []) k 0) (get_or (get_or paths s []) k 0) more.own one.within other.within (one.stage_is ∙ sym other.stage_is)
      (path_key t k on.within (omega (arith, other_size, low)) ∙ nested ∙ sym (path_key s k below (omega (arith, size, low))))

  node_stage : (n : ℕ) → n < length debuts → (node_at nodes n).stage ≡ (get_or debuts n no_debut).stage
  node_stage n below = ap (λ (x : Node). x.stage) (there core p debuts paths all scenarios nodes parts n below).is

  node_parent : (n : ℕ) → n < length debuts → (node_at nodes n).parent ≡ parent_by paths (get_or debuts n no_debut)
  node_parent n below = ap (λ (x : Node). x.parent) (there core p debuts paths all scenarios nodes parts n below).is ∙ parent_of_position (parent_by paths (get_or debuts n no_debut))

  root_parent : (debut : Debut) → debut.stage ≡ 0 → parent_by paths debut ≡ None
  root_parent debut is = ap (λ (b : Bool). if b then None else Some (node_in paths debut.scenario (debut.stage - 1))) (let e : nat_eq debut.stage 0 ≡ true = grind (arith, nat_tests, is) in e)

  child_parent : (debut : Debut) (k : ℕ) → debut.stage ≡ suc k → parent_by paths debut ≡ Some (node_in paths debut.scenario k)
  child_parent debut k is =
      ap (λ (b : Bool). if b then None else Some (node_in paths debut.scenario (debut.stage - 1))) (let e : nat_eq debut.stage 0 ≡ false = grind (arith, nat_tests, is) in e)
      ∙ ap (λ (m : ℕ). Some (node_in paths debut.scenario m)) (let e : debut.stage - 1 ≡ k = omega (arith, is) in e)

  step : (s i : ℕ) → s < length paths → i < length (get_or paths s []) → IsStep made (0 + i) (get_or (get_or paths s []) i 0) (before None (get_or paths s []) i)
  step s zero below inside =
      let h = on_path s 0 below inside in
      record { lives = lives_at (get_or (get_or paths s []) 0 0) h.within; stage = node_stage (get_or (get_or paths s []) 0 0) h.within ∙ h.stage_is; parent = node_parent (get_or (get_or paths s []) 0 0) h.within ∙ root_parent (get_or debuts (get_or (get_or paths s []) 0 0) no_debut) h.stage_is }
  step s (suc k) below inside =
      let n = get_or (get_or paths s []) (suc k) 0 in
      let h = on_path s (suc k) below inside in
      record {
        lives = lives_at n h.within;
        stage = node_stage n h.within ∙ h.stage_is;
        parent = node_parent n h.within ∙ child_parent (get_or debuts n no_debut) k (h.stage_is ∙ (let e : 0 + suc k ≡ suc k = omega arith in e)) ∙ ap Some (parent_is s k below (omega (arith, inside, path_long s below)));
      }

  path_follows : (s : ℕ) → s < length paths → Follows made 0 None (get_or paths s [])
  path_follows s below = follows made 0 None (get_or paths s []) (omega (arith, path_long s below)) (λ i inside. step s i below inside)

  -- ---- the parents of nodes

  -- node 0 is of the first stage
  zero_root : 0 < length debuts → (get_or debuts 0 no_debut).stage ≡ 0
  zero_root some =
      let on = parts.outlines.starts 0 some in
      go on.appears.place on.appears.earlier (on.appears.stage)
    where
      go : (place : ℕ) → ((i : ℕ) → i < place → get_or (get_or paths (parts.outlines.starts 0 some).place []) i 0 < 0) → (get_or debuts 0 no_debut).stage ≡ 0 + place → (get_or debuts 0 no_debut).stage ≡ 0
      go zero earlier is = is
      go (suc k) earlier is = absurd (let low = earlier 0 (omega arith) in omega (arith, low))

  root_key : (n : ℕ) → n < length debuts → (get_or debuts n no_debut).stage ≡ 0 → (get_or debuts n no_debut).key ≡ 0
  root_key n below is =
      let on = parts.outlines.starts n below in
      let place : on.appears.place ≡ 0 = omega (arith, on.appears.stage, is) in
      ap (λ (m : ℕ). (get_or debuts m no_debut).key) (sym on.appears.number) ∙ path_key on.place on.appears.place on.within on.appears.within
      ∙ ap (λ (k : ℕ). get_or (get_or rows on.place []) k 0) place ∙ more.nest.one_root on.place (omega (arith, on.within, more.same))

  only_root : (n : ℕ) → n < length debuts → (get_or debuts n no_debut).stage ≡ 0 → n ≡ 0
  only_root n below is =
      let some : 0 < length debuts = omega (arith, below) in
      same_node debuts n 0 more.own below some (is ∙ sym (zero_root some)) (root_key n below is ∙ sym (root_key 0 some (zero_root some)))

  has_parent : (n : ℕ) → n < length debuts → (k : ℕ) → (get_or debuts n no_debut).stage ≡ k → HasParent made n (node_at nodes n).stage (node_at nodes n).parent
  has_parent n below zero is =
      subst (HasParent made n (node_at nodes n).stage) (sym (node_parent n below ∙ root_parent (get_or debuts n no_debut) is)) (only_root n below is, node_stage n below ∙ is)
  has_parent n below (suc k) is =
      let on = parts.outlines.starts n below in
      let scenario : (get_or debuts n no_debut).scenario ≡ on.place = omega (arith, on.scenario) in
      let place : on.appears.place ≡ suc k = omega (arith, on.appears.stage, is) in
      let m = get_or (get_or paths on.place []) k 0 in
      let above : node_in paths (get_or debuts n no_debut).scenario k ≡ m = ap (λ (s : ℕ). node_in paths s k) scenario in
      let h = on_path on.place k on.within (omega (arith, on.appears.within, place)) in
      let stage : (node_at nodes m).stage ≡ k = node_stage m h.within ∙ h.stage_is ∙ (let e : 0 + k ≡ k = omega arith in e) in
      subst (HasParent made n (node_at nodes n).stage) (sym (node_parent n below ∙ child_parent (get_or debuts n no_debut) k is ∙ ap Some above))
      (record { live = lives_at m h.within; earlier = omega (arith, node_stage n below, is, stage); smaller = on.appears.earlier k (omega (arith, place)) })

  -- ---- nodes

  row_fits : (stage : ℕ) (r : NodeRow) → IsMadeRow p stage core.rows.items r → r.row < length core.rows.items → FitsRow made stage r
  row_fits stage r h below =
      let read = row_read p 0 r.row core.rows.items below in
      record {
        entries = each-map (λ (e : Term) (k : IsUpTo p stage e). column_passes p 0 e.column (λ s. leb s stage) core.columns.items (omega (arith, k.there, parts.staged.columns)) (le-leb (get_or p.columns (0 + e.column) 0) stage (subst (λ (m : ℕ). get_or p.columns m 0 ≤ stage) (let z : e.column ≡ 0 + e.column = omega arith in z) k.reached))) r.entries h.entries;
        in_order = h.in_order;
        ends = record {
          low = h.low ∙ sym (ap₂ has_low read.0 read.1);
          high = h.high ∙ sym (ap₂ has_high read.0 read.1);
        };
      }

  -- rows of these numbers are those of the core
  rows_below : (stage : ℕ) (xs : List NodeRow) → map number_of_row xs ≡ rows_at stage p.rows → Each (λ (r : NodeRow). r.row < length core.rows.items) xs
  rows_below stage xs same = unmapped xs (subst (Each (λ (i : ℕ). i < length core.rows.items)) (sym same) (each-place (λ i. i < length core.rows.items) (λ at. nat_eq at stage) p.rows
      (λ i passes. omega (arith, (passes_get (λ at. nat_eq at stage) i p.rows 0 passes).0, parts.staged.rows))))
    where
      unmapped : (xs : List NodeRow) → Each (λ (i : ℕ). i < length core.rows.items) (map number_of_row xs) → Each (λ (r : NodeRow). r.row < length core.rows.items) xs
      unmapped [] h = tt
      unmapped (x ∷ xs) h = (h.0, unmapped xs h.1)

  node_fits : (n : ℕ) → Lives made n → FitsNode made n (node_at nodes n)
  node_fits n is =
      let below = within core p debuts paths all scenarios nodes parts n is in
      let h = there core p debuts paths all scenarios nodes parts n below in
      let values = parts.sound.sound n below in
      let s = (get_or debuts n no_debut).stage in
      let rows_are = rows_made p s core.rows.items [] (get_or all n no_values).rows h.rows tt values.rows h.walk in
      let numbers : map number_of_row h.rows ≡ rows_at s p.rows = numbers_made core.rows.items [] (get_or all n no_values).rows h.rows h.walk ∙ values.numbers in
      record {
        stage = omega (arith, node_stage n below, stages_low (length p.names) debuts paths parts.outlines more.long n below);
        parent = has_parent n below s refl;
        cost = subst (λ (x : Node). Each (λ (e : Term). passes_at (λ (c : Column). eqb c.stage x.stage) e.column (columns_from p 0 core.columns.items) ≡ true) x.cost) (sym h.is)
            (each-map (λ (e : Term) (k : IsOf p s e). column_passes p 0 e.column (λ m. eqb m s) core.columns.items (omega (arith, k.there, parts.staged.columns))
            (eq-eqb (get_or p.columns (0 + e.column) 0) s (ap (λ (m : ℕ). get_or p.columns m 0) (let z : 0 + e.column ≡ e.column = omega arith in z) ∙ k.stage_is))) (get_or all n no_values).cost values.cost);
        numbers = subst (λ (x : Node). map number_of_row x.rows ≡ places (λ (r : Row). eqb r.stage x.stage) 0 (rows_from p 0 core.rows.items)) (sym h.is)
            (numbers ∙ rows_of_stage p s 0 core.rows.items p.rows parts.staged.rows (λ i. ap (λ (m : ℕ). get_or p.rows m 0) (let z : i ≡ 0 + i = omega arith in z)));
        rows = subst (λ (x : Node). Each (FitsRow made x.stage) x.rows) (sym h.is) (each-both (λ r k l. row_fits s r k l) h.rows rows_are (rows_below s h.rows numbers));
      }

  -- ---- the program

  scenarios_fit : (ss : List Scenario) → Each IsPositive ss → Each (λ (path : List ℕ). Follows made 0 None path) (map path_of ss) → Each (FitsScenario made) ss
  scenarios_fit [] above paths = tt
  scenarios_fit (s ∷ ss) above paths = (record { positive = above.0; path = paths.0 }, scenarios_fit ss above.1 paths.1)

  all_fit : Each (FitsScenario made) scenarios
  all_fit = scenarios_fit scenarios parts.have.positive
      (subst (Each (λ (path : List ℕ). Follows made 0 None path)) (sym parts.have.paths_are) (each_from (λ (path : List ℕ). Follows made 0 None path) paths [] path_follows))

  reached_by : (n i : ℕ) (ss : List Scenario) → i < length ss → is_in n (get_or (map path_of ss) i []) ≡ true → is_reached n ss ≡ true
  reached_by n i [] below on = absurd (omega (arith, below))
  reached_by n zero (s ∷ ss) below on = ap (λ b. b || is_reached n ss) on
  reached_by n (suc i) (s ∷ ss) below on = go (is_in n s.path) (reached_by n i ss (omega (arith, below)) on)
    where
      go : (b : Bool) → is_reached n ss ≡ true → (b || is_reached n ss) ≡ true
      go true h = refl
      go false h = h

  node_reached : (n : ℕ) → Lives made n → is_reached n scenarios ≡ true
  node_reached n is =
      let on = parts.outlines.starts n (within core p debuts paths all scenarios nodes parts n is) in
      let on_it : is_in n (get_or paths on.place []) ≡ true = is_in_at (get_or paths on.place []) on.appears.place n on.appears.within on.appears.number in
      let long : length scenarios ≡ length paths = sym (length-map scenarios path_of) ∙ ap length parts.have.paths_are in
      reached_by n on.place scenarios (omega (arith, on.within, long)) (ap (λ (ps : List (List ℕ)). is_in n (get_or ps on.place [])) parts.have.paths_are ∙ on_it)

  columns_all : Each (FitsColumn made) (columns_from p 0 core.columns.items)
  columns_all = each-both (λ (c : Column) (k : c.stage < length p.names) (o : InOrder c.lower c.upper). record { stage = k; in_order = o }) (columns_from p 0 core.columns.items)
      (columns_fit p (length p.names) 0 core.columns.items (λ j below. subst (λ (m : ℕ). get_or p.columns m 0 < length p.names) (let z : j ≡ 0 + j = omega arith in z) (periods.columns j (omega (arith, below, parts.staged.columns)))))
      (bounds_in_order p 0 core.columns.items (core_fits core).bounds)

  rows_all : Each (λ (r : Row). r.stage < length p.names) (rows_from p 0 core.rows.items)
  rows_all = rows_fit p (length p.names) 0 core.rows.items (λ i below. subst (λ (m : ℕ). get_or p.rows m 0 < length p.names) (let z : i ≡ 0 + i = omega arith in z) (periods.rows i (omega (arith, below, parts.staged.rows))))

  program_is : IsSmall made → HasNames made → sum_ℚ (λ (s : Scenario). s.probability) scenarios ≡ one_ℚ → IsProgram made
  program_is small names certain = record {
    small = small;
    names = names;
    periods = periods.some;
    few_periods = periods.few;
    row_stages = rows_all;
    columns = columns_all;
    nodes = node_fits;
    scenarios = all_fit;
    reached = node_reached;
    certain = certain;
  }

  small_is : length debuts ≤ most_nodes → length paths ≤ most_scenarios → IsSmall made
  small_is few_nodes few_paths = record {
    columns = omega (arith, columns_count 0 core.columns.items, (core_fits core).few_columns);
    rows = omega (arith, rows_count 0 core.rows.items, (core_fits core).few_rows);
    nodes = small (length nodes) (omega (arith, made_length core.rows.items debuts (positions_of paths debuts) 0 all nodes parts.made, parts.sound.same, few_nodes));
    scenarios = small (length scenarios) (omega (arith, length-map scenarios path_of, ap length parts.have.paths_are, few_paths));
  }
    where
      small : (n : ℕ) → n ≤ 20000 → n < 2 ^ 32
      small n h = omega (arith, h)

      columns_count : (k : ℕ) (defs : List ColumnDef) → length (columns_from p k defs) ≡ length defs
      columns_count k [] = refl
      columns_count k (c ∷ defs) = ap suc (columns_count (k + 1) defs)

      rows_count : (k : ℕ) (defs : List RowDef) → length (rows_from p k defs) ≡ length defs
      rows_count k [] = refl
      rows_count k (r ∷ defs) = ap suc (rows_count (k + 1) defs)

column_names_are : (p : Stages) (k : ℕ) (defs : List ColumnDef) → map (λ (c : Column). c.name) (columns_from p k defs) ≡ map (λ (c : ColumnDef). c.name) defs
column_names_are p k [] = refl
column_names_are p k (c ∷ defs) = ap (λ (rest : List (List ℕ)). c.name ∷ rest) (column_names_are p (k + 1) defs)

row_names_are : (p : Stages) (k : ℕ) (defs : List RowDef) → map (λ (r : Row). r.name) (rows_from p k defs) ≡ map (λ (r : RowDef). r.name) defs
row_names_are p k [] = refl
row_names_are p k (r ∷ defs) = ap (λ (rest : List (List ℕ)). r.name ∷ rest) (row_names_are p (k + 1) defs)

finished : (core : Core) (p : Stages) (rows : List (List ℕ)) (program : Program) → Made core p rows program → Nest (length p.names) rows → ArePeriods p → length (debuts_of rows) ≤ most_nodes → length rows ≤ most_scenarios →
    Each IsField p.names → IsProgram program
finished core p rows program m nest periods few_nodes few_rows fields =
    let same : length rows ≡ length (paths_of rows) = sym (paths_length [] 0 rows) in
    let more : Rows (length p.names) rows (debuts_of rows) (paths_of rows) = record { keys = paths_have_keys rows; own = debuts_own rows; nest = nest; same = same; long = m.long } in
    let x : Program = program_of core p m.nodes m.scenarios in
    let fit = core_fits core in
    subst IsProgram (sym m.is)
    (program_is core p rows (debuts_of rows) (paths_of rows) m.all m.scenarios m.nodes m.parts more periods
    (small_is core p rows (debuts_of rows) (paths_of rows) m.all m.scenarios m.nodes m.parts more periods few_nodes (omega (arith, same, few_rows)))
    (record {
      periods = numbered_names p.names periods.differ fields;
      columns = subst AreNames (sym (column_names_are p 0 core.columns.items)) fit.columns;
      rows = subst AreNames (sym (row_names_are p 0 core.rows.items)) fit.rows;
      scenarios = m.named (few (length (paths_of rows)) (omega (arith, same, few_rows)));
    }) m.certain)
  where
    few : (n : ℕ) → n ≤ 10000 → n < 50000
    few n h = omega (arith, h)

-- what isn't over is within the limits
within_limits : (a b : ℕ) (c : Bool) → (nat_lt most_scenarios a || (nat_lt most_nodes b || c)) ≡ false → (a ≤ most_scenarios) × (b ≤ most_nodes)
within_limits a b c e = go (nat_lt most_scenarios a) refl (nat_lt most_nodes b) refl e
  where
    low : (n m : ℕ) → nat_lt m n ≡ false → n ≤ m
    low n m h = grind (arith, nat_tests, h)

    go : (x : Bool) → nat_lt most_scenarios a ≡ x → (y : Bool) → nat_lt most_nodes b ≡ y → (x || (y || c)) ≡ false → (a ≤ most_scenarios) × (b ≤ most_nodes)
    go true is y js h = cc
    go false is true js h = cc
    go false is false js h = (low a most_scenarios is, low b most_nodes js)

later_wheels : (count : ℕ) (p : Stages) (blocks : List Block) → Each (IsBlock p) blocks → AreLater (wheels_of count blocks)
later_wheels count p blocks all = each_flat (λ (w : Wheel). 0 < w.stage) (λ stage. wheels_at stage 0 blocks) (stages_from 0 count) (λ stage. at stage 0 blocks all)
  where
    at : (stage i : ℕ) (rest : List Block) → Each (IsBlock p) rest → AreLater (wheels_at stage i rest)
    at stage i [] h = tt
    at stage i (block ∷ rest) h = go (nat_eq block.stage stage) refl (at stage (suc i) rest h.1)
      where
        some : nat_eq block.stage stage ≡ true → 0 < stage
        some is = let same : block.stage ≡ stage = equal block.stage stage is in omega (arith, same, h.0.later)
          where
            equal : (n m : ℕ) → nat_eq n m ≡ true → n ≡ m
            equal n m e = grind (arith, nat_tests, e)

        go : (b : Bool) → nat_eq block.stage stage ≡ b → AreLater (wheels_at stage (suc i) rest) →
            AreLater (pick b (record { block = i; stage = stage; size = length block.cases } ∷ wheels_at stage (suc i) rest) (wheels_at stage (suc i) rest))
        go true is later = (some is, later)
        go false is later = later

later_branches : (p : Stages) (branches : List Branch) → Each (IsBranch p) branches → AreLaterBranches branches
later_branches p [] all = tt
later_branches p (b ∷ branches) all = (all.0.later, later_branches p branches all.1)

pub built_are_programs : BuiltArePrograms
built_are_programs core p (Blocks blocks) program staged periods fields cases over e =
    let wheels = wheels_of (length p.names) blocks in
    let rows = block_rows (length p.names) wheels in
    let limits = within_limits (product (sizes_of wheels)) (length (debuts_of rows)) (are_over (block_all core p blocks wheels rows)) over in
    finished core p rows program (made_of_blocks core p blocks program staged cases e) (blocks_nest (length p.names) wheels (later_wheels (length p.names) p blocks cases) periods.some) periods limits.1
    (omega (arith, limits.0, block_rows_length (length p.names) wheels)) fields
built_are_programs core p (Branches branches) program staged periods fields cases over e =
    let rows = branch_rows (length p.names) [] branches in
    let limits = within_limits (length branches) (length (debuts_of rows)) (are_over (branch_all core p branches rows)) over in
    finished core p rows program (made_of_branches core p branches program staged cases e) (branches_nest (length p.names) branches (later_branches p branches cases.all)) periods limits.1
    (omega (arith, limits.0, rows_length (length p.names) [] branches)) fields
