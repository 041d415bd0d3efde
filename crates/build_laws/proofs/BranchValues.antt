-- The values of all nodes where scenarios are stated one by one.
use Rattle.std.proofs.Common.{◌≡◌, ◌∙◌, ap, ap₂, sym, refl, subst, ℕ, ◌+◌, ◌<◌, List, [], ◌∷◌, ◌++◌, Option, Some, None, map, length, get_or, append_assoc, append-nil, arith}
use Rattle.std.proofs.Math.Seq.{get_or-append_seam}
use Rattle.std.proofs.lemmas.List.{length-append, get_or-map, get_or_append_left}
use Rattle.core_defs.specs.declared.program.Core.{Core}
use Rattle.time_defs.specs.Means.{Stages}
use Rattle.stoch_defs.specs.Random.{Sets, Branch}
use Rattle.scen_defs.specs.Lists.{Each}
use Rattle.build_defs.specs.Laws.{IsBelow, AreAncestral}
use Rattle.build_defs.specs.Scenarios.{Scenario, no_branch, sets_above}
use Rattle.tree_build.specs.declared.numbering.Debut.{Debut}
use Rattle.tree_build.specs.Values.{Values, values_of}
use Rattle.tree_build.specs.Branches.{branch_rows}
use Rattle.tree_build.specs.Nodes.{no_values, node_in, source_of, with_own, branch_node, branch_nodes}
use Rattle.tree_build.specs.Finish.{no_debut}
use Rattle.tree_build.specs.Walks.{base_of, debuts_of, paths_of}
use Rattle.tree_build.proofs.Lists.{each_at}
use Rattle.tree_build.proofs.Numbers.{Stands, stands_at, IsOn, Outlines, outlines, paths_length, paths_long}
use Rattle.tree_build.proofs.NodeValues.{stages_low}
use Rattle.tree_build.proofs.Marks.{key_at, keys_at, paths_have_keys}
use Rattle.tree_build.proofs.ScenarioLaws.{rows_length, rows_long}
use Rattle.build_laws.proofs.Numbered.{no_scenario, stand_of}
use Rattle.build_laws.proofs.Tables.{map_push, map_each, map_map}
use Rattle.build_laws.proofs.Above.{none_above, values_above, above_is}
use Rattle.build_laws.proofs.Keys.{values_by, told}
use Rattle.build_laws.proofs.BlockValues.{base_at, IsInside, all_inside, meant_values}

module _ (core : Core) (p : Stages) (branches : List Branch) (up : AreAncestral branches) where
  abbrev pub rows : List (List ℕ)
  rows = branch_rows (length p.names) [] branches

  abbrev pub debuts : List Debut
  debuts = debuts_of rows

  abbrev pub paths : List (List ℕ)
  paths = paths_of rows

  rows_count : length rows ≡ length branches
  rows_count = rows_length (length p.names) [] branches ∙ (let e : 0 + length branches ≡ length branches = omega arith in e)

  paths_count : length paths ≡ length branches
  paths_count = paths_length [] 0 rows ∙ rows_count

  long : Each (λ (path : List ℕ). length path ≡ length p.names) paths
  long = paths_long [] 0 (length p.names) rows (rows_long (length p.names) [] branches tt)

  out : Outlines debuts paths
  out = outlines rows

  -- the values of the scenario where the node first appears
  abbrev pub value_at : Debut → Values
  value_at debut = values_above core p branches (Some debut.scenario) debut.stage

  -- they are those that its key tells
  by_key : (n : ℕ) → n < length debuts → value_at (get_or debuts n no_debut) ≡ values_by core p branches (get_or debuts n no_debut).key (get_or debuts n no_debut).stage
  by_key n below =
      let debut = get_or debuts n no_debut in
      let on = out.starts n below in
      let place : on.place ≡ debut.scenario = omega (arith, on.scenario) in
      let stage : on.appears.place ≡ debut.stage = omega (arith, on.appears.stage) in
      let inside : debut.scenario < length branches = omega (arith, place, on.within, paths_count) in
      let low = stages_low (length p.names) debuts paths out long n below in
      let have = key_at debuts (get_or rows on.place []) (get_or paths on.place []) on.appears.place (keys_at debuts rows paths on.place (paths_have_keys rows) on.within) on.appears.within in
      let key : debut.key ≡ get_or (get_or rows debut.scenario []) debut.stage 0 =
      ap (λ (m : ℕ). (get_or debuts m no_debut).key) (sym on.appears.number) ∙ have ∙ ap₂ (λ (s t : ℕ). get_or (get_or rows s []) t 0) place stage in
      told core p branches debut.stage (length branches) (Some debut.scenario) up low inside inside
      ∙ ap (λ (k : ℕ). values_by core p branches k debut.stage) (sym key)

  -- the parent's node at a stage has the values of those above
  source_is : (front rest : List Debut) (parent : Option ℕ) (scenario stage : ℕ) → debuts ≡ front ++ rest → IsBelow scenario parent → scenario < length branches → stage < length p.names →
      ((i j : ℕ) → i < scenario → j < length (get_or paths i []) → get_or (get_or paths i []) j 0 < length front) →
      source_of (base_of core p) paths (map value_at front) parent stage ≡ values_above core p branches parent stage
  source_is front rest None scenario stage is known inside low sooner = base_at core p stage low ∙ ap (λ (sets : Sets). values_of core p sets stage) (sym (none_above p branches (length branches)))
  source_is front rest (Some m) scenario stage is known inside low sooner =
      let there : m < length paths = omega (arith, known, inside, paths_count) in
      let size = each_at (λ (path : List ℕ). length path ≡ length p.names) paths m [] long there in
      let on_path : stage < length (get_or paths m []) = omega (arith, size, low) in
      let n = node_in paths m stage in
      let early : n < length front = sooner m stage known on_path in
      let read : get_or debuts n no_debut ≡ get_or front n no_debut = ap (λ (ds : List Debut). get_or ds n no_debut) is ∙ get_or_append_left front rest no_debut n early in
      let number = stands_at debuts 0 (get_or paths m []) stage (each_at (Stands debuts 0) paths m [] out.stands there) on_path in
      let stage_is : (get_or debuts n no_debut).stage ≡ stage = number.stage_is ∙ (let e : 0 + stage ≡ stage = omega arith in e) in
      let key : (get_or debuts n no_debut).key ≡ get_or (get_or rows m []) stage 0 = key_at debuts (get_or rows m []) (get_or paths m []) stage (keys_at debuts rows paths m (paths_have_keys rows) there) on_path in
      get_or-map value_at front n no_debut no_values early
      ∙ ap value_at (sym read)
      ∙ by_key n number.within
      ∙ ap₂ (λ (k s : ℕ). values_by core p branches k s) key stage_is
      ∙ sym (told core p branches stage (length branches) (Some m) up low (omega (arith, known, inside)) (omega (arith, known, inside)))

  -- a node behind those that are there
  node_is : (front rest : List Debut) (debut : Debut) → debuts ≡ front ++ debut ∷ rest → branch_node core p (base_of core p) branches paths (map value_at front) debut ≡ value_at debut
  node_is front rest debut is =
      let here : get_or debuts (length front) no_debut ≡ debut = ap (λ (xs : List Debut). get_or xs (length front) no_debut) is ∙ get_or-append_seam front debut rest no_debut in
      let below : length front < length debuts = fits (ap length is) in
      subst (λ (d : Debut). branch_node core p (base_of core p) branches paths (map value_at front) d ≡ value_at d) here (at (out.starts (length front) below) (stages_low (length p.names) debuts paths out long (length front) below))
    where
      fits : length debuts ≡ length (front ++ debut ∷ rest) → length front < length debuts
      fits e = omega (arith, e, length-append front (debut ∷ rest))

      at : IsOn paths 0 (get_or debuts (length front) no_debut) (length front) → (get_or debuts (length front) no_debut).stage < length p.names →
          branch_node core p (base_of core p) branches paths (map value_at front) (get_or debuts (length front) no_debut) ≡ value_at (get_or debuts (length front) no_debut)
      at on low =
          let d = get_or debuts (length front) no_debut in
          let branch = get_or branches d.scenario no_branch in
          let place : on.place ≡ d.scenario = omega (arith, on.scenario) in
          let inside : d.scenario < length branches = omega (arith, place, on.within, paths_count) in
          ap (λ (source : Values). with_own core p d.stage branch source)
          (source_is front (debut ∷ rest) branch.parent d.scenario d.stage is (up d.scenario) inside low (λ i j before on_path. on.sooner i j (omega (arith, before, place)) on_path))
          ∙ sym (above_is core p branches d.scenario d.stage up inside)

  nodes_are : (front rest : List Debut) → debuts ≡ front ++ rest → branch_nodes core p (base_of core p) branches paths (map value_at front) rest ≡ map value_at debuts
  nodes_are front [] is = ap (map value_at) (sym (is ∙ append-nil front))
  nodes_are front (debut ∷ rest) is =
      ap (λ (all : List Values). branch_nodes core p (base_of core p) branches paths all rest)
      (ap (λ (d : Values). map value_at front ++ d ∷ []) (node_is front rest debut is) ∙ sym (map_push value_at front debut))
      ∙ nodes_are (front ++ debut ∷ []) rest (is ∙ sym (append_assoc front (debut ∷ []) rest))

  pub branches_are : branch_nodes core p (base_of core p) branches paths [] debuts ≡ map value_at debuts
  branches_are = nodes_are [] debuts refl

pub branches_meant : (core : Core) (p : Stages) (branches : List Branch) (scenarios : List Scenario) → AreAncestral branches → length branches ≡ length scenarios →
    ((k : ℕ) → k < length scenarios → sets_above p branches (length branches) (Some k) ≡ (get_or scenarios k no_scenario).sets) →
    branch_nodes core p (base_of core p) branches (paths_of (branch_rows (length p.names) [] branches)) [] (debuts_of (branch_rows (length p.names) [] branches))
    ≡ map (meant_values core p) (map (stand_of scenarios) (debuts_of (branch_rows (length p.names) [] branches)))
branches_meant core p branches scenarios up count sets =
    let rows = branch_rows (length p.names) [] branches in
    branches_are core p branches up
    ∙ map_each (λ d. values_above core p branches (Some d.scenario) d.stage) (λ d. meant_values core p (stand_of scenarios d)) (debuts_of rows) (each (debuts_of rows) (all_inside rows (length p.names) (rows_long (length p.names) [] branches tt)))
    ∙ sym (map_map (meant_values core p) (stand_of scenarios) (debuts_of rows))
  where
    long : length (branch_rows (length p.names) [] branches) ≡ length scenarios
    long = rows_length (length p.names) [] branches ∙ (let e : 0 + length branches ≡ length branches = omega arith in e) ∙ count

    each : (ds : List Debut) → Each (IsInside (length (branch_rows (length p.names) [] branches)) (length p.names)) ds → Each (λ d. values_above core p branches (Some d.scenario) d.stage ≡ meant_values core p (stand_of scenarios d)) ds
    each [] all = tt
    each (d ∷ ds) all = (ap (λ (s : Sets). values_of core p s d.stage) (sets d.scenario (omega (arith, all.0.scenario, long))), each ds all.1)
