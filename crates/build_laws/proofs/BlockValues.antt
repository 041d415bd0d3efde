-- The values of all nodes where blocks are stated.
use Rattle.std.proofs.Common.{◌≡◌, ◌∙◌, ap, sym, ℕ, ◌<◌, List, [], ◌∷◌, map, length, get_or, arith}
use Rattle.core_defs.specs.declared.program.Core.{Core}
use Rattle.time_defs.specs.Means.{Stages}
use Rattle.stoch_defs.specs.Random.{Sets, Block}
use Rattle.scen_defs.specs.Lists.{Each}
use Rattle.build_defs.specs.Scenarios.{Scenario}
use Rattle.build_defs.specs.Nodes.{Stand}
use Rattle.tree_build.specs.declared.wheels.Wheel.{Wheel}
use Rattle.tree_build.specs.declared.numbering.Debut.{Debut}
use Rattle.tree_build.specs.Values.{Values, values_of, with_sets}
use Rattle.tree_build.specs.Wheels.{sizes_of}
use Rattle.tree_build.specs.Choices.{sets_of}
use Rattle.tree_build.specs.Nodes.{no_values, digits_at, block_node}
use Rattle.tree_build.specs.Finish.{no_debut}
use Rattle.tree_build.specs.Walks.{base_of, debuts_of, paths_of}
use Rattle.tree_build.proofs.ValueLemmas.{all_sets}
use Rattle.tree_build.proofs.Lists.{each_from}
use Rattle.tree_build.proofs.Numbers.{outlines, paths_length, paths_long}
use Rattle.tree_build.proofs.NodeValues.{stages_low}
use Rattle.build_laws.proofs.Numbered.{no_scenario, stand_of}
use Rattle.build_laws.proofs.Tables.{by_stage, map_each, map_map}

pub base_at : (core : Core) (p : Stages) (stage : ℕ) → stage < length p.names → get_or (base_of core p) stage no_values ≡ values_of core p [] stage
base_at core p stage low = by_stage (values_of core p []) (length p.names) stage no_values low

pub block_node_is : (core : Core) (p : Stages) (blocks : List Block) (wheels : List Wheel) (debut : Debut) → debut.stage < length p.names →
    block_node core p (base_of core p) blocks wheels debut ≡ values_of core p (sets_of blocks wheels (digits_at (sizes_of wheels) debut.scenario)) debut.stage
block_node_is core p blocks wheels debut low =
    ap (λ (d : Values). with_sets core p debut.stage d (sets_of blocks wheels (digits_at (sizes_of wheels) debut.scenario))) (base_at core p debut.stage low)
    ∙ all_sets core p debut.stage [] (sets_of blocks wheels (digits_at (sizes_of wheels) debut.scenario))

-- a node is of a scenario and of a stage that are there
pub record IsInside (scenarios stages : ℕ) (debut : Debut) : Type 0 where
  pub scenario : debut.scenario < scenarios
  pub stage : debut.stage < stages

pub all_inside : (rows : List (List ℕ)) (count : ℕ) → Each (λ (row : List ℕ). length row ≡ count) rows → Each (IsInside (length rows) count) (debuts_of rows)
all_inside rows count long =
    let out = outlines rows in
    each_from (IsInside (length rows) count) (debuts_of rows) no_debut (λ n below.
    let on = out.starts n below in
    record {
      scenario = omega (arith, on.scenario, on.within, paths_length [] 0 rows);
      stage = stages_low count (debuts_of rows) (paths_of rows) out (paths_long [] 0 count rows long) n below;
    })

-- the values of the nodes that are meant
abbrev pub meant_values : Core → Stages → Stand → Values
meant_values core p first = values_of core p first.scenario.sets first.stage

pub blocks_meant : (core : Core) (p : Stages) (blocks : List Block) (wheels : List Wheel) (scenarios : List Scenario) (debuts : List Debut) → Each (IsInside (length scenarios) (length p.names)) debuts →
    ((k : ℕ) → k < length scenarios → sets_of blocks wheels (digits_at (sizes_of wheels) k) ≡ (get_or scenarios k no_scenario).sets) →
    map (block_node core p (base_of core p) blocks wheels) debuts ≡ map (meant_values core p) (map (stand_of scenarios) debuts)
blocks_meant core p blocks wheels scenarios debuts inside sets =
    map_each (block_node core p (base_of core p) blocks wheels) (λ d. meant_values core p (stand_of scenarios d)) debuts (each debuts inside)
    ∙ sym (map_map (meant_values core p) (stand_of scenarios) debuts)
  where
    each : (ds : List Debut) → Each (IsInside (length scenarios) (length p.names)) ds → Each (λ d. block_node core p (base_of core p) blocks wheels d ≡ meant_values core p (stand_of scenarios d)) ds
    each [] all = tt
    each (d ∷ ds) all = (block_node_is core p blocks wheels d all.0.stage ∙ ap (λ (s : Sets). values_of core p s d.stage) (sets d.scenario all.0.scenario), each ds all.1)
