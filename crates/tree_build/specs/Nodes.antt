-- The values of all nodes, one by one.
use Rattle.std.specs.Prelude.{◌≡◌, ℕ, true, List, [], ◌∷◌, ◌++◌, Option, Some, None, get_or, nat_lt, if◌then◌else◌}
use Rattle.std.specs.Prelude.{⊤}
use Rattle.core_defs.specs.declared.program.Core.{Core}
use Rattle.time_defs.specs.Means.{Stages}
use Rattle.stoch_defs.specs.Random.{Block, Branch}
use Rattle.smps_build.specs.declared.fault.BuildFault.{BuildFault}
use Rattle.smps_build.specs.declared.fault.BuildFault.TheVariants.{Limit, Passed, Memory}
use Rattle.build_defs.specs.Scenarios.{no_branch}
use Rattle.tree_build.specs.declared.wheels.Wheel.{Wheel}
use Rattle.tree_build.specs.declared.numbering.Debut.{Debut}
use Rattle.tree_build.specs.Values.{Values, with_sets}
use Rattle.tree_build.specs.Wheels.{product, sizes_of, digits_of}
use Rattle.tree_build.specs.Choices.{sets_of}
use Rattle.tree_build.specs.Limits.{are_over}

-- what stands for values past the last ones
abbrev pub no_values : Values
no_values = record { cost = []; rows = [] }

-- the digits of a scenario that is there
abbrev pub digits_at : List ℕ → ℕ → List ℕ
digits_at sizes number = if nat_lt number (product sizes) then digits_of sizes number else []

-- a node where blocks are stated: the core's values, and then what the cases set of the scenario where it first appears
abbrev pub block_node : Core → Stages → List Values → List Block → List Wheel → Debut → Values
block_node core p base blocks wheels debut = with_sets core p debut.stage (get_or base debut.stage no_values)
    (sets_of blocks wheels (digits_at (sizes_of wheels) debut.scenario))

-- the node of a scenario at a stage
abbrev pub node_in : List (List ℕ) → ℕ → ℕ → ℕ
node_in paths scenario stage = get_or (get_or paths scenario []) stage 0

-- what a scenario's parent has at a stage; the core's own path has the core's values
abbrev pub source_of : List Values → List (List ℕ) → List Values → Option ℕ → ℕ → Values
source_of base paths all None stage = get_or base stage no_values
source_of base paths all (Some parent) stage = get_or all (node_in paths parent stage) no_values

abbrev pub with_own : Core → Stages → ℕ → Branch → Values → Values
with_own core p stage branch source = if nat_lt stage branch.stage then source else with_sets core p stage source branch.sets

-- a node where scenarios are stated: what the parent has there, and from the branch period on what the scenario sets itself
abbrev pub branch_node : Core → Stages → List Values → List Branch → List (List ℕ) → List Values → Debut → Values
branch_node core p base branches paths all debut =
    with_own core p debut.stage (get_or branches debut.scenario no_branch)
    (source_of base paths all (get_or branches debut.scenario no_branch).parent debut.stage)

-- the nodes behind those that are there
abbrev pub branch_nodes : Core → Stages → List Values → List Branch → List (List ℕ) → List Values → List Debut → List Values
branch_nodes core p base branches paths all [] = all
branch_nodes core p base branches paths all (debut ∷ debuts) =
    branch_nodes core p base branches paths (all ++ branch_node core p base branches paths all debut ∷ []) debuts

-- these values are too many
abbrev pub IsFullOf : List Values → BuildFault → Type 0
IsFullOf all Limit = are_over all ≡ true
IsFullOf all (Passed _) = ⊥
IsFullOf all Memory = ⊤
