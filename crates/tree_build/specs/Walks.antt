-- The program as it is computed: numbers of nodes, values of nodes, products, totals and shares, intervals.
use Rattle.std.specs.Prelude.{◌≡◌, ℕ, Bool, true, false, ◌||◌, List, [], map, length, nat_lt, Result, Ok, Err}
use Rattle.std.specs.Prelude.{MatchResult, ⊤}
use Rattle.rationals.specs.Passes.{Operation, then_walk}
use Rattle.core_defs.specs.declared.program.Core.{Core}
use Rattle.time_defs.specs.Means.{Stages}
use Rattle.stoch_defs.specs.Random.{Block, Branch, Random, Blocks, Branches}
use Rattle.scen_defs.specs.declared.program.Program.{Program as ProgramOf}
use Rattle.scen_defs.specs.Program.{Program, content}
use Rattle.smps_build.specs.declared.fault.BuildFault.{BuildFault}
use Rattle.smps_build.specs.declared.fault.BuildFault.TheVariants.{Limit, Passed, Memory}
use Rattle.build_defs.specs.Scenarios.{stages_from}
use Rattle.build_defs.specs.Built.{most_scenarios, most_nodes}
use Rattle.tree_build.specs.declared.wheels.Wheel.{Wheel}
use Rattle.tree_build.specs.declared.numbering.Debut.{Debut}
use Rattle.tree_build.specs.Values.{Values, values_of}
use Rattle.tree_build.specs.Wheels.{wheels_of, product, sizes_of, digits_of, key_row}
use Rattle.tree_build.specs.Branches.{branch_rows}
use Rattle.tree_build.specs.Numbering.{debuts_from, all_debuts, paths_from}
use Rattle.tree_build.specs.Limits.{are_over}
use Rattle.tree_build.specs.Nodes.{block_node, branch_nodes}
use Rattle.tree_build.specs.Finish.{position_at, block_paths, branch_paths, finish_walk}

-- why there is no program: there is too much of it, or the first operation that passes, or memory was wanting
abbrev pub IsBuildFault : Bool → Result Program Operation → BuildFault → Type 0
IsBuildFault over walk Limit = over ≡ true
IsBuildFault over walk (Passed p) = (over ≡ false) × (walk ≡ Err p)
IsBuildFault over walk Memory = ⊤

-- the program of the walk, where there isn't too much of it
abbrev pub IsBuilt : Bool → Result Program Operation → Result ProgramOf BuildFault → Type 0
IsBuilt over walk result = MatchResult result (λ program. (over ≡ false) × (walk ≡ Ok (content program))) (IsBuildFault over walk)

-- what the core states of each stage
abbrev pub base_of : Core → Stages → List Values
base_of core p = map (values_of core p []) (stages_from 0 (length p.names))

abbrev pub debuts_of : List (List ℕ) → List Debut
debuts_of rows = debuts_from [] (all_debuts 0 rows)

abbrev pub paths_of : List (List ℕ) → List (List ℕ)
paths_of rows = paths_from [] 0 rows

-- ---- blocks

-- the keys of all scenarios of blocks
abbrev pub block_rows : ℕ → List Wheel → List (List ℕ)
block_rows stages wheels = map (λ number. key_row wheels stages (digits_of (sizes_of wheels) number))
    (stages_from 0 (product (sizes_of wheels)))

abbrev pub block_all : Core → Stages → List Block → List Wheel → List (List ℕ) → List Values
block_all core p blocks wheels rows = map (block_node core p (base_of core p) blocks wheels) (debuts_of rows)

abbrev pub blocks_over_by : Core → Stages → List Block → List Wheel → List (List ℕ) → Bool
blocks_over_by core p blocks wheels rows = nat_lt most_scenarios (product (sizes_of wheels))
    || (nat_lt most_nodes (length (debuts_of rows)) || are_over (block_all core p blocks wheels rows))

abbrev pub blocks_walk_by : Core → Stages → List Block → List Wheel → List (List ℕ) → Result Program Operation
blocks_walk_by core p blocks wheels rows =
    then_walk (block_paths blocks wheels [] (paths_of rows))
    (λ scenarios. finish_walk core p (debuts_of rows) (map (position_at (paths_of rows)) (debuts_of rows)) scenarios
    (block_all core p blocks wheels rows))

abbrev pub blocks_over : Core → Stages → List Block → Bool
blocks_over core p blocks = blocks_over_by core p blocks (wheels_of (length p.names) blocks)
    (block_rows (length p.names) (wheels_of (length p.names) blocks))

abbrev pub blocks_walk : Core → Stages → List Block → Result Program Operation
blocks_walk core p blocks = blocks_walk_by core p blocks (wheels_of (length p.names) blocks)
    (block_rows (length p.names) (wheels_of (length p.names) blocks))

-- ---- scenarios that are stated

abbrev pub branch_all : Core → Stages → List Branch → List (List ℕ) → List Values
branch_all core p branches rows = branch_nodes core p (base_of core p) branches (paths_of rows) [] (debuts_of rows)

abbrev pub branches_over_by : Core → Stages → List Branch → List (List ℕ) → Bool
branches_over_by core p branches rows = nat_lt most_scenarios (length branches)
    || (nat_lt most_nodes (length (debuts_of rows)) || are_over (branch_all core p branches rows))

abbrev pub branches_walk_by : Core → Stages → List Branch → List (List ℕ) → Result Program Operation
branches_walk_by core p branches rows =
    then_walk (branch_paths branches [] (paths_of rows)) (λ scenarios. finish_walk core p (debuts_of rows)
    (map (position_at (paths_of rows)) (debuts_of rows)) scenarios (branch_all core p branches rows))

abbrev pub branches_over : Core → Stages → List Branch → Bool
branches_over core p branches = branches_over_by core p branches (branch_rows (length p.names) [] branches)

abbrev pub branches_walk : Core → Stages → List Branch → Result Program Operation
branches_walk core p branches = branches_walk_by core p branches (branch_rows (length p.names) [] branches)

-- ---- what a stoch file states

-- there are more scenarios, nodes, entries, rows or costs than there may be
abbrev pub build_over : Core → Stages → Random → Bool
build_over core p (Blocks blocks) = blocks_over core p blocks
build_over core p (Branches branches) = branches_over core p branches

-- The scenarios; their nodes, numbered by first appearance (scenario by scenario, along each by stage); the values of each
-- node. Then what may pass: the products that are the scenarios' probabilities, the totals of the nodes, their shares, and
-- the intervals of the rows, node by node.
abbrev pub build_walk : Core → Stages → Random → Result Program Operation
build_walk core p (Blocks blocks) = blocks_walk core p blocks
build_walk core p (Branches branches) = branches_walk core p branches
