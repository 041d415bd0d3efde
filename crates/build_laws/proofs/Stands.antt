-- Nodes by their keys and nodes by their marks, where keys are equal exactly where marks are the same.
use Rattle.std.proofs.Common.{◌≡◌, ◌∙◌, ap, ap₂, sym, refl, ℕ, suc, ◌+◌, ◌-◌, ◌<◌, Bool, true, false, ◌&&◌, ◌||◌, not, cond, List, [], ◌∷◌, ◌++◌, map, length, get_or, nat_eq, Some, None, arith, if◌then◌else◌}
use Rattle.std.proofs.lemmas.List.{get_or-map, length-map}
use Rattle.std.proofs.lemmas.Bool.Decides.{nat_tests}
use Rattle.std.specs.List.{list_any}
use Rattle.smps_words.specs.Names.{same_name}
use Rattle.scen_defs.specs.Lists.{Each}
use Rattle.scen_defs.proofs.SumLaws.{each-map}
use Rattle.scen_tree.specs.Trees.{position_by}
use Rattle.build_defs.specs.Scenarios.{Scenario, stages_from}
use Rattle.build_defs.specs.Nodes.{Stand, same_node, all_stands, with_new, first_stands, nodes_of, node_from, node_of, path_of}
use Rattle.build_defs.specs.Built.{position_of}
use Rattle.build_defs.proofs.EachLemmas.{each_append}
use Rattle.tree_build.specs.declared.numbering.Debut.{Debut}
use Rattle.tree_build.specs.Numbering.{same_key, has_key, number_of, key_of, keys_of, with_debut, debuts_from, row_debuts, all_debuts}
use Rattle.tree_build.specs.Nodes.{node_in}
use Rattle.tree_build.specs.Finish.{no_debut, position_at}
use Rattle.tree_build.specs.Walks.{debuts_of, paths_of}
use Rattle.tree_build.proofs.Lists.{each_at}
use Rattle.tree_build.proofs.Numbers.{Stands, stands_at, outlines, paths_length, paths_long, the_debut}
use Rattle.tree_build.proofs.Marks.{key_at, keys_at, paths_have_keys, debuts_own}
use Rattle.build_laws.proofs.Numbered.{no_scenario, stand_of}
use Rattle.build_laws.proofs.Tables.{map_push, by_stage, map_each, map_map}
use Rattle.build_laws.proofs.Places.{same_list, map_both, stages_long}

abbrev pub row_of : List (List ℕ) → ℕ → List ℕ
row_of rows k = get_or rows k []

abbrev pub mark_at : List Scenario → ℕ → ℕ → List ℕ
mark_at scenarios k stage = get_or (get_or scenarios k no_scenario).marks stage []

-- there is a row of keys for each scenario, and keys are equal exactly where marks are the same
pub record AreTold (count : ℕ) (rows : List (List ℕ)) (scenarios : List Scenario) : Type 0 where
  pub same : length rows ≡ length scenarios
  pub long : Each (λ (row : List ℕ). length row ≡ count) rows
  pub told : (i j s : ℕ) → i < length rows → j < length rows → s < count →
      nat_eq (get_or (row_of rows i) s 0) (get_or (row_of rows j) s 0) ≡ same_name (mark_at scenarios i s) (mark_at scenarios j s)

-- the key of a scenario's node at a stage
pub record Fits (count : ℕ) (rows : List (List ℕ)) (debut : Debut) : Type 0 where
  pub there : debut.scenario < length rows
  pub low : debut.stage < count
  pub key : debut.key ≡ get_or (row_of rows debut.scenario) debut.stage 0

same_stage : (n m : ℕ) → nat_eq n m ≡ true → m ≡ n
same_stage n m e = grind (arith, nat_tests, e)

-- ---- all that are among the rows

row_fit : (count : ℕ) (rows : List (List ℕ)) (s k : ℕ) (row : List ℕ) → s < length rows → k + length row ≡ count → ((i : ℕ) → i < length row → get_or row i 0 ≡ get_or (row_of rows s) (k + i) 0) → Each (Fits count rows) (row_debuts s k row)
row_fit count rows s k [] there long same = tt
row_fit count rows s k (key ∷ keys) there long same = (
  record { there = there; low = omega (arith, long); key = same 0 (omega arith) ∙ ap (λ (n : ℕ). get_or (row_of rows s) n 0) (let e : k + 0 ≡ k = omega arith in e) },
  row_fit count rows s (suc k) keys there (omega (arith, long)) (λ i below. same (suc i) (omega (arith, below)) ∙ ap (λ (n : ℕ). get_or (row_of rows s) n 0) (let e : k + suc i ≡ suc k + i = omega arith in e)),
)

rows_fit : (count : ℕ) (rows : List (List ℕ)) (s : ℕ) (rest : List (List ℕ)) → s + length rest ≡ length rows → ((i : ℕ) → i < length rest → row_of rest i ≡ row_of rows (s + i)) → Each (λ (row : List ℕ). length row ≡ count) rest →
    Each (Fits count rows) (all_debuts s rest)
rows_fit count rows s [] room same long = tt
rows_fit count rows s (row ∷ rest) room same long =
    let first : row ≡ row_of rows s = same 0 (omega arith) ∙ ap (row_of rows) (let e : s + 0 ≡ s = omega arith in e) in
    each_append (Fits count rows) (row_debuts s 0 row) (all_debuts (suc s) rest)
    (row_fit count rows s 0 row (omega (arith, room)) (omega (arith, long.0)) (λ i below. ap (λ (r : List ℕ). get_or r i 0) first ∙ ap (λ (n : ℕ). get_or (row_of rows s) n 0) (let e : i ≡ 0 + i = omega arith in e)))
    (rows_fit count rows (suc s) rest (omega (arith, room)) (λ i below. same (suc i) (omega (arith, below)) ∙ ap (row_of rows) (let e : s + suc i ≡ suc s + i = omega arith in e)) long.1)

all_fit : (count : ℕ) (rows : List (List ℕ)) → Each (λ (row : List ℕ). length row ≡ count) rows → Each (Fits count rows) (all_debuts 0 rows)
all_fit count rows long = rows_fit count rows 0 rows (omega arith) (λ i below. ap (row_of rows) (let e : i ≡ 0 + i = omega arith in e)) long

one_fit : (count : ℕ) (rows : List (List ℕ)) (seen : List Debut) (d : Debut) → Each (Fits count rows) seen → Fits count rows d → Each (Fits count rows) (with_debut seen d)
one_fit count rows seen d all fit = go (has_key (keys_of seen) (key_of d))
  where
    go : (b : Bool) → Each (Fits count rows) (if b then seen else seen ++ d ∷ [])
    go true = all
    go false = each_append (Fits count rows) seen (d ∷ []) all (fit, tt)

more_fit : (count : ℕ) (rows : List (List ℕ)) (seen ds : List Debut) → Each (Fits count rows) seen → Each (Fits count rows) ds → Each (Fits count rows) (debuts_from seen ds)
more_fit count rows seen [] all fit = all
more_fit count rows seen (d ∷ ds) all fit = more_fit count rows (with_debut seen d) ds (one_fit count rows seen d all fit.0) fit.1

pub debuts_fit : (count : ℕ) (rows : List (List ℕ)) → Each (λ (row : List ℕ). length row ≡ count) rows → Each (Fits count rows) (debuts_of rows)
debuts_fit count rows long = more_fit count rows [] (all_debuts 0 rows) tt (all_fit count rows long)

-- node n is that of scenario k at a stage
record IsAt (rows : List (List ℕ)) (k s n : ℕ) : Type 0 where
  within : n < length (debuts_of rows)
  stage : (get_or (debuts_of rows) n no_debut).stage ≡ s
  key : (get_or (debuts_of rows) n no_debut).key ≡ get_or (row_of rows k) s 0

-- ---- keys and marks

module _ (count : ℕ) (rows : List (List ℕ)) (scenarios : List Scenario) (told : AreTold count rows scenarios) where
  abbrev stand : Debut → Stand
  stand debut = stand_of scenarios debut

  alike : (a b : Debut) → Fits count rows a → Fits count rows b → same_key (key_of a) (key_of b) ≡ same_node (stand a) (stand b)
  alike a b one other = go (nat_eq a.stage b.stage) refl
    where
      go : (t : Bool) → nat_eq a.stage b.stage ≡ t → (t && nat_eq a.key b.key) ≡ (t && same_name (mark_at scenarios a.scenario a.stage) (mark_at scenarios b.scenario b.stage))
      go false is = refl
      go true is =
          let stage : b.stage ≡ a.stage = same_stage a.stage b.stage is in
          ap₂ nat_eq one.key (other.key ∙ ap (λ (s : ℕ). get_or (row_of rows b.scenario) s 0) stage)
          ∙ told.told a.scenario b.scenario a.stage one.there other.there one.low
          ∙ ap (λ (s : ℕ). same_name (mark_at scenarios a.scenario a.stage) (mark_at scenarios b.scenario s)) (sym stage)

  found : (seen : List Debut) (d : Debut) → Each (Fits count rows) seen → Fits count rows d → has_key (keys_of seen) (key_of d) ≡ list_any (λ f. same_node (stand d) f) (map stand seen)
  found [] d all fit = refl
  found (f ∷ seen) d all fit = ap₂ ◌||◌ (alike d f fit all.0) (found seen d all.1 fit)

  one_more : (seen : List Debut) (d : Debut) → Each (Fits count rows) seen → Fits count rows d → map stand (with_debut seen d) ≡ with_new (map stand seen) (stand d)
  one_more seen d all fit = go (has_key (keys_of seen) (key_of d)) ∙ ap (λ (b : Bool). if b then map stand seen else map stand seen ++ stand d ∷ []) (found seen d all fit)
    where
      go : (b : Bool) → map stand (if b then seen else seen ++ d ∷ []) ≡ (if b then map stand seen else map stand seen ++ stand d ∷ [])
      go true = refl
      go false = map_push stand seen d

  firsts_are : (seen ds : List Debut) → Each (Fits count rows) seen → Each (Fits count rows) ds → map stand (debuts_from seen ds) ≡ first_stands (map stand seen) (map stand ds)
  firsts_are seen [] all fit = refl
  firsts_are seen (d ∷ ds) all fit =
      firsts_are (with_debut seen d) ds (one_fit count rows seen d all fit.0) fit.1
      ∙ ap (λ (xs : List Stand). first_stands xs (map stand ds)) (one_more seen d all fit.0)

  abbrev at_stage : Scenario → ℕ → Stand
  at_stage s stage = record { scenario = s; stage = stage }

  row_stands : (s k : ℕ) (row : List ℕ) → map stand (row_debuts s k row) ≡ map (at_stage (get_or scenarios s no_scenario)) (stages_from k (length row))
  row_stands s k [] = refl
  row_stands s k (key ∷ keys) =
      ap (λ (rest : List Stand). at_stage (get_or scenarios s no_scenario) k ∷ rest)
      (row_stands s (suc k) keys ∙ ap (λ (n : ℕ). map (at_stage (get_or scenarios s no_scenario)) (stages_from n (length keys))) (let e : suc k ≡ k + 1 = omega arith in e))

  rows_stands : (s : ℕ) (rest : List (List ℕ)) (ss : List Scenario) → length rest ≡ length ss → ((i : ℕ) → i < length ss → get_or ss i no_scenario ≡ get_or scenarios (s + i) no_scenario) → Each (λ (row : List ℕ). length row ≡ count) rest →
      map stand (all_debuts s rest) ≡ all_stands count ss
  rows_stands s [] [] same read long = refl
  rows_stands s [] (sc ∷ ss) same read long = absurd (omega (arith, same))
  rows_stands s (row ∷ rest) [] same read long = absurd (omega (arith, same))
  rows_stands s (row ∷ rest) (sc ∷ ss) same read long =
      let first : get_or scenarios s no_scenario ≡ sc = sym (read 0 (omega arith) ∙ ap (λ (n : ℕ). get_or scenarios n no_scenario) (let e : s + 0 ≡ s = omega arith in e)) in
      map_both stand (row_debuts s 0 row) (all_debuts (suc s) rest)
      ∙ ap₂ ◌++◌ (row_stands s 0 row ∙ ap₂ (λ (x : Scenario) (n : ℕ). map (at_stage x) (stages_from 0 n)) first long.0)
      (rows_stands (suc s) rest ss (omega (arith, same)) (λ i below. read (suc i) (omega (arith, below)) ∙ ap (λ (n : ℕ). get_or scenarios n no_scenario) (let e : s + suc i ≡ suc s + i = omega arith in e)) long.1)

  -- the nodes that are numbered are those that are meant
  pub nodes_are : nodes_of count scenarios ≡ map stand (debuts_of rows)
  nodes_are = sym (
      firsts_are [] (all_debuts 0 rows) tt (all_fit count rows told.long)
      ∙ ap (first_stands []) (rows_stands 0 rows scenarios told.same (λ i below. ap (λ (n : ℕ). get_or scenarios n no_scenario) (let e : i ≡ 0 + i = omega arith in e)) told.long)
      )

  -- ---- numbers

  number_is : (n : ℕ) (seen : List Debut) (d : Debut) → Each (Fits count rows) seen → Fits count rows d → node_from n (map stand seen) (stand d) ≡ n + number_of (keys_of seen) (key_of d)
  number_is n [] d all fit = omega arith
  number_is n (f ∷ seen) d all fit =
      ap (λ (b : Bool). if b then n else node_from (n + 1) (map stand seen) (stand d)) (sym (alike d f fit all.0))
      ∙ go (same_key (key_of d) (key_of f)) (number_is (n + 1) seen d all.1 fit)
    where
      go : (b : Bool) → node_from (n + 1) (map stand seen) (stand d) ≡ n + 1 + number_of (keys_of seen) (key_of d) →
          (if b then n else node_from (n + 1) (map stand seen) (stand d)) ≡ n + cond (not b) (1 + number_of (keys_of seen) (key_of d)) 0
      go true later = omega arith
      go false later = omega (arith, later)

  long_paths : Each (λ (path : List ℕ). length path ≡ count) (paths_of rows)
  long_paths = paths_long [] 0 count rows told.long

  many_paths : length (paths_of rows) ≡ length rows
  many_paths = paths_length [] 0 rows

  at_node : (k s : ℕ) → k < length rows → s < count → IsAt rows k s (node_in (paths_of rows) k s)
  at_node k s there low =
      let all = debuts_of rows in
      let path = get_or (paths_of rows) k [] in
      let inside : k < length (paths_of rows) = omega (arith, there, many_paths) in
      let size : length path ≡ count = each_at (λ (p : List ℕ). length p ≡ count) (paths_of rows) k [] long_paths inside in
      let on : s < length path = omega (arith, size, low) in
      let number = stands_at all 0 path s (each_at (Stands all 0) (paths_of rows) k [] (outlines rows).stands inside) on in
      record {
        within = number.within;
        stage = number.stage_is ∙ (let e : 0 + s ≡ s = omega arith in e);
        key = key_at all (row_of rows k) path s (keys_at all rows (paths_of rows) k (paths_have_keys rows) inside) on;
      }

  -- the node of scenario k at a stage
  pub node_is : (k s : ℕ) → k < length rows → s < count → node_in (paths_of rows) k s ≡ node_of (nodes_of count scenarios) (get_or scenarios k no_scenario) s
  node_is k s there low =
      let all = debuts_of rows in
      let n = node_in (paths_of rows) k s in
      let at = at_node k s there low in
      let d = the_debut k s (get_or (row_of rows k) s 0) in
      let fit : Fits count rows d = record { there = there; low = low; key = refl } in
      sym (debuts_own rows n at.within)
      ∙ ap₂ (λ (a b : ℕ). number_of (keys_of all) (a, b)) at.stage at.key
      ∙ (let e : number_of (keys_of all) (key_of d) ≡ 0 + number_of (keys_of all) (key_of d) = omega arith in e)
      ∙ sym (number_is 0 all d (debuts_fit count rows told.long) fit)
      ∙ ap (λ (firsts : List Stand). node_from 0 firsts (stand d)) (sym nodes_are)

  -- the paths are those that are meant
  pub paths_are : paths_of rows ≡ map (path_of count (nodes_of count scenarios)) scenarios
  paths_are =
      let firsts = nodes_of count scenarios in
      same_list (paths_of rows) (map (path_of count firsts) scenarios) [] (many_paths ∙ told.same ∙ sym (length-map scenarios (path_of count firsts)))
      (λ k inside.
      let there : k < length rows = omega (arith, inside, many_paths) in
      path_is k there inside
      ∙ sym (get_or-map (path_of count firsts) scenarios k no_scenario [] (omega (arith, there, told.same))))
    where
      path_is : (k : ℕ) → k < length rows → k < length (paths_of rows) → get_or (paths_of rows) k [] ≡ path_of count (nodes_of count scenarios) (get_or scenarios k no_scenario)
      path_is k there inside =
          let firsts = nodes_of count scenarios in
          let path = get_or (paths_of rows) k [] in
          let size : length path ≡ count = each_at (λ (p : List ℕ). length p ≡ count) (paths_of rows) k [] long_paths inside in
          same_list path (path_of count firsts (get_or scenarios k no_scenario)) 0 (size ∙ sym (stages_long (node_of firsts (get_or scenarios k no_scenario)) count))
          (λ s on.
          let low : s < count = omega (arith, on, size) in
          node_is k s there low ∙ sym (by_stage (node_of firsts (get_or scenarios k no_scenario)) count s 0 low))

  -- ---- where nodes stand

  place_is : (d : Debut) → Fits count rows d → position_at (paths_of rows) d ≡ position_of (nodes_of count scenarios) (stand d)
  place_is d fit = ap position_by (go (nat_eq d.stage 0))
    where
      go : (b : Bool) → (if b then None else Some (node_in (paths_of rows) d.scenario (d.stage - 1))) ≡ (if b then None else Some (node_of (nodes_of count scenarios) (get_or scenarios d.scenario no_scenario) (d.stage - 1)))
      go true = refl
      go false = ap Some (node_is d.scenario (d.stage - 1) fit.there (omega (arith, fit.low)))

  pub positions_are : map (position_at (paths_of rows)) (debuts_of rows) ≡ map (position_of (nodes_of count scenarios)) (nodes_of count scenarios)
  positions_are =
      map_each (position_at (paths_of rows)) (λ d. position_of (nodes_of count scenarios) (stand d)) (debuts_of rows) (each-map place_is (debuts_of rows) (debuts_fit count rows told.long))
      ∙ sym (map_map (position_of (nodes_of count scenarios)) stand (debuts_of rows))
      ∙ ap (map (position_of (nodes_of count scenarios))) (sym nodes_are)
