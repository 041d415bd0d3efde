-- The nodes of a program, from their values.
use Rattle.std.specs.Prelude.{ℕ, ◌-◌, List, [], ◌∷◌, ◌++◌, Option, Some, None, Result, Ok, get_or, length, ◌+◌}
use Rattle.std.specs.Prelude.{◌<◌, ◌^◌, ◌≡◌}
use Rattle.std.specs.Prelude.{nat_eq, if◌then◌else◌}
use Rattle.rationals.specs.Passes.{Operation, then_walk}
use Rattle.core_defs.specs.declared.parts.RowDef.{RowDef}
use Rattle.scen_defs.specs.declared.program.NodeRow.{NodeRow}
use Rattle.scen_defs.specs.Program.{Node, Scenario, Program}
use Rattle.scen_defs.specs.Valid.{IsProgram}
use Rattle.core_defs.specs.declared.program.Core.{Core}
use Rattle.time_defs.specs.Means.{Stages}
use Rattle.rationals.specs.Rational.{one_ℚ}
use Rattle.stoch_defs.specs.Random.{Block, Branch}
use Rattle.scen_tree.specs.declared.position.Position.{Position}
use Rattle.scen_tree.specs.declared.position.Position.TheVariants.{Dropped, Root, Below}
use Rattle.frac128.specs.declared.fault.ArithmeticFault.{ArithmeticFault}
use Rattle.frac128.specs.declared.fault.ArithmeticFault.TheVariants as tree
use Rattle.scen_tree.specs.Trees.{position_by}
use Rattle.scen_tree.specs.Chances.{chances_walk}
use Rattle.build_defs.specs.Digits.{digits}
use Rattle.build_defs.specs.Scenarios.{no_branch}
use Rattle.build_defs.specs.Built.{product_from, program_of}
use Rattle.tree_build.specs.declared.wheels.Wheel.{Wheel}
use Rattle.tree_build.specs.Wheels.{sizes_of}
use Rattle.tree_build.specs.Choices.{chances_of}
use Rattle.tree_build.specs.Nodes.{node_in, digits_at}
use Rattle.smps_build.specs.declared.fault.BuildFault.{BuildFault}
use Rattle.smps_build.specs.declared.fault.BuildFault.TheVariants.{Passed, Memory}
use Rattle.stoch_defs.specs.Entries.{no_row}
use Rattle.smps_build.specs.Ends.{Interval, interval_walk}
use Rattle.tree_build.specs.declared.parts.RowValues.{RowValues}
use Rattle.tree_build.specs.declared.numbering.Debut.{Debut}
use Rattle.tree_build.specs.Values.{Values}

abbrev pub value_interval : List RowDef → RowValues → Result Interval Operation
value_interval defs r = interval_walk (get_or defs r.row no_row).kind r.rhs (get_or defs r.row no_row).range

abbrev pub value_row : RowValues → Interval → NodeRow
value_row r ends = record { row = r.row; entries = r.entries; low = ends.0; high = ends.1 }

-- the rows behind those that are built
abbrev pub value_rows : List RowDef → List NodeRow → List RowValues → Result (List NodeRow) Operation
value_rows defs built [] = Ok built
value_rows defs built (r ∷ rows) = then_walk (value_interval defs r) (λ ends. value_rows defs (built ++ value_row r ends ∷ []) rows)

-- the node of the stage before: on the path of the scenario where the node first appears
abbrev pub parent_by : List (List ℕ) → Debut → Option ℕ
parent_by paths debut = if nat_eq debut.stage 0 then None else Some (node_in paths debut.scenario (debut.stage - 1))

-- where a node stands in the tree
abbrev pub position_at : List (List ℕ) → Debut → Position
position_at paths debut = position_by (parent_by paths debut)

abbrev pub parent_in : Position → Option ℕ
parent_in Dropped = None
parent_in Root = None
parent_in (Below parent) = Some parent

-- what stands for a node past the last one
abbrev pub no_debut : Debut
no_debut = record { scenario = 0; stage = 0; key = 0 }

abbrev pub value_node : Debut → Position → Values → List NodeRow → Node
value_node debut position d rows = record { stage = debut.stage; parent = parent_in position; cost = d.cost; rows = rows }

-- the nodes behind those that are built
abbrev pub value_nodes : List RowDef → List Debut → List Position → List (Option Node)
    → List Values → Result (List (Option Node)) Operation
value_nodes defs debuts positions built [] = Ok built
value_nodes defs debuts positions built (d ∷ all) =
    then_walk (value_rows defs [] d.rows) (λ rows. value_nodes defs debuts positions (built
    ++ Some (value_node (get_or debuts (length built) no_debut) (get_or positions (length built) Root) d rows) ∷ []) all)

-- the stages have 32 bits
abbrev pub AreStaged : List Debut → Type 0
AreStaged debuts = (n : ℕ) → (get_or debuts n no_debut).stage < 2 ^ 32

abbrev pub build_fault : ArithmeticFault → BuildFault
build_fault (tree.Passed p) = Passed p
build_fault tree.Memory = Memory

-- the totals and the shares, the nodes, and then the program
abbrev pub finish_walk : Core → Stages → List Debut → List Position → List Scenario → List Values → Result Program Operation
finish_walk core p debuts positions scenarios all =
    then_walk (chances_walk positions scenarios) (λ chances. then_walk (value_nodes core.rows.items debuts positions [] all)
    (λ nodes. Ok (program_of core p nodes scenarios)))

-- a program that the walk gives keeps what programs keep
abbrev pub GivesPrograms : Result Program Operation → Type 0
GivesPrograms walk = (program : Program) → walk ≡ Ok program → IsProgram program

-- ---- scenarios

-- the scenarios of blocks behind those that are built
abbrev pub block_paths : List Block → List Wheel → List Scenario → List (List ℕ) → Result (List Scenario) Operation
block_paths blocks wheels built [] = Ok built
block_paths blocks wheels built (path ∷ paths) =
    then_walk (product_from one_ℚ (chances_of blocks wheels (digits_at (sizes_of wheels) (length built))))
    (λ chance. block_paths blocks wheels (built ++ record { name = 83 ∷ digits (length built + 1); probability = chance; path = path }
    ∷ []) paths)

-- the scenarios that are stated behind those that are built
abbrev pub branch_paths : List Branch → List Scenario → List (List ℕ) → Result (List Scenario) Operation
branch_paths branches built [] = Ok built
branch_paths branches built (path ∷ paths) =
    then_walk (product_from one_ℚ ((get_or branches (length built) no_branch).probability ∷ []))
    (λ chance. branch_paths branches (built ++ record {
      name = (get_or branches (length built) no_branch).name;
      probability = chance;
      path = path;
    } ∷ []) paths)
