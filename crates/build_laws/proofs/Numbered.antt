-- What the numbers of nodes have to do with the scenarios that are meant: all that is asked of the numbering.
use Rattle.std.specs.Prelude.{◌≡◌, ℕ, ◌<◌, List, [], Some, map, length, get_or}
use Rattle.time_defs.specs.Means.{Stages}
use Rattle.stoch_defs.specs.Random.{Block, Branch, Random}
use Rattle.stoch_defs.specs.Random.Random.{Blocks, Branches}
use Rattle.build_defs.specs.Scenarios.{Scenario, scenarios_of, sets_above}
use Rattle.build_defs.specs.Nodes.{Stand, nodes_of}
use Rattle.build_defs.specs.Built.{paths_from, position_of}
use Rattle.tree_build.specs.declared.wheels.Wheel.{Wheel}
use Rattle.tree_build.specs.declared.numbering.Debut.{Debut}
use Rattle.tree_build.specs.Wheels.{wheels_of, product, sizes_of}
use Rattle.tree_build.specs.Choices.{sets_of}
use Rattle.tree_build.specs.Branches.{branch_rows}
use Rattle.tree_build.specs.Nodes.{digits_at}
use Rattle.tree_build.specs.Finish.{position_at, block_paths, branch_paths}
use Rattle.tree_build.specs.Walks.{debuts_of, paths_of, block_rows}
use Rattle.core_defs.specs.declared.program.Core.{Core}
use Rattle.tree_build.specs.Law.{AreCases}
use Rattle.build_laws.specs.Law.{IsMeant}

-- what stands for a scenario past the last one
abbrev pub no_scenario : Scenario
no_scenario = record { name = []; factors = []; marks = []; sets = [] }

-- where a node first appears, as a scenario at a stage
abbrev pub stand_of : List Scenario → Debut → Stand
stand_of scenarios debut = record { scenario = get_or scenarios debut.scenario no_scenario; stage = debut.stage }

-- the nodes that are numbered by keys are those that are meant, and stand where those stand
pub record AreNumbered (p : Stages) (scenarios : List Scenario) (rows : List (List ℕ)) : Type 0 where
  pub firsts : nodes_of (length p.names) scenarios ≡ map (stand_of scenarios) (debuts_of rows)
  pub positions : map (position_at (paths_of rows)) (debuts_of rows)
      ≡ map (position_of (nodes_of (length p.names) scenarios)) (nodes_of (length p.names) scenarios)

-- of blocks: the nodes, how many scenarios, their paths and probabilities, and what each sets
pub record AreBlocksNumbered (p : Stages) (blocks : List Block) (wheels : List Wheel) (scenarios : List Scenario) (rows : List (List ℕ))
    : Type 0 where
  pub numbered : AreNumbered p scenarios rows
  pub count : product (sizes_of wheels) ≡ length scenarios
  pub walk : block_paths blocks wheels [] (paths_of rows)
      ≡ paths_from (length p.names) (nodes_of (length p.names) scenarios) [] scenarios
  pub sets : (k : ℕ) → k < length scenarios → sets_of blocks wheels (digits_at (sizes_of wheels) k) ≡ (get_or scenarios k no_scenario).sets

-- of scenarios that are stated
pub record AreBranchesNumbered (p : Stages) (branches : List Branch) (scenarios : List Scenario) (rows : List (List ℕ)) : Type 0 where
  pub numbered : AreNumbered p scenarios rows
  pub count : length branches ≡ length scenarios
  pub walk : branch_paths branches [] (paths_of rows)
      ≡ paths_from (length p.names) (nodes_of (length p.names) scenarios) [] scenarios
  pub sets : (k : ℕ) → k < length scenarios → sets_above p branches (length branches) (Some k) ≡ (get_or scenarios k no_scenario).sets

abbrev pub IsNumbered : Stages → Random → Type 0
IsNumbered p (Blocks blocks) = AreBlocksNumbered p blocks (wheels_of (length p.names) blocks) (scenarios_of p (Blocks blocks))
    (block_rows (length p.names) (wheels_of (length p.names) blocks))
IsNumbered p (Branches branches) =
    AreBranchesNumbered p branches (scenarios_of p (Branches branches)) (branch_rows (length p.names) [] branches)

-- ---- what follows of it

-- the program is the one that is meant where the nodes are numbered as they are meant
abbrev pub NumberedAreMeant : Type 0
NumberedAreMeant = (core : Core) (p : Stages) (random : Random) → AreCases p random → IsNumbered p random → IsMeant core p random
