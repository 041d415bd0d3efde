-- Scenarios and nodes of a program, one by one.
use Rattle.std.proofs.Common.{◌≡◌, ◌∙◌, ap, sym, refl, subst, ℕ, suc, ◌+◌, List, [], ◌∷◌, ◌++◌, length, get_or, Option, Some, Result, Ok, Err}
use Rattle.std.specs.Result.{MatchResult, IsErrAnd, IsOk}
use Rattle.rationals.specs.Rational.{ℚ, one_ℚ}
use Rattle.rationals.specs.Passes.{Operation, mul_walk, then_walk}
use Rattle.core_defs.specs.declared.parts.RowDef.{RowDef}
use Rattle.core_defs.specs.declared.program.Core.{Core}
use Rattle.time_defs.specs.Means.{Stages}
use Rattle.scen_defs.specs.declared.program.Column.{Column}
use Rattle.scen_defs.specs.declared.program.Node.{Node as NodeOf}
use Rattle.scen_defs.specs.declared.program.NodeRow.{NodeRow}
use Rattle.scen_defs.specs.declared.program.Row.{Row}
use Rattle.scen_defs.specs.declared.program.Scenario.{Scenario as ScenarioOf}
use Rattle.scen_defs.specs.Program.{Node, Scenario, scenario_content, scenarios_content, place_content, nodes_content}
use Rattle.scen_defs.specs.Valid.{IsProgram}
use Rattle.scen_tree.specs.Chances.{chances_walk}
use Rattle.scen_tree.specs.declared.position.Position.{Position}
use Rattle.scen_tree.specs.declared.position.Position.TheVariants.{Root}
use Rattle.stoch_defs.specs.Random.{Block, Branch}
use Rattle.smps_build.specs.declared.fault.BuildFault.{BuildFault}
use Rattle.smps_build.specs.declared.fault.BuildFault.TheVariants.{Limit, Passed, Memory}
use Rattle.smps_build.specs.Faults.{BuildFaultOf}
use Rattle.build_defs.specs.Digits.{digits}
use Rattle.build_defs.specs.Scenarios.{no_branch}
use Rattle.build_defs.specs.Built.{product_from, columns_from, rows_from, program_of}
use Rattle.tree_build.specs.declared.wheels.Wheel.{Wheel}
use Rattle.tree_build.specs.declared.numbering.Debut.{Debut}
use Rattle.tree_build.specs.Values.{Values}
use Rattle.tree_build.specs.Wheels.{sizes_of}
use Rattle.tree_build.specs.Choices.{chances_of}
use Rattle.tree_build.specs.Nodes.{digits_at}
use Rattle.tree_build.specs.Finish.{value_rows, value_node, value_nodes, no_debut, block_paths, branch_paths, finish_walk, GivesPrograms}

-- a call that hands on why another one failed
pub handed_build : {X Y Z : Type 0} (result : Result X BuildFault) (one : Result Y Operation) (whole : Result Z Operation) (fault : BuildFault) (Q : X → Type 0) → IsErrAnd result (λ e. e ≡ fault) → BuildFaultOf one fault →
    ((p : Operation) → one ≡ Err p → whole ≡ Err p) → MatchResult result Q (BuildFaultOf whole)
handed_build (Ok x) one whole fault Q is fails ends = absurd is
handed_build (Err e) one whole Limit Q is fails ends = absurd fails
handed_build (Err e) one whole (Passed p) Q is fails ends = subst (BuildFaultOf whole) (sym is) (ends p fails)
handed_build (Err e) one whole Memory Q is fails ends = subst (BuildFaultOf whole) (sym is) tt

then_ok : {X Y : Type 0} (w : Result X Operation) (x : X) (f : X → Result Y Operation) → w ≡ Ok x → then_walk w f ≡ f x
then_ok w x f e = ap (λ v. then_walk v f) e

then_err : {X Y : Type 0} (w : Result X Operation) (p : Operation) (f : X → Result Y Operation) → w ≡ Err p → then_walk w f ≡ Err p
then_err w p f e = ap (λ v. then_walk v f) e

branch_chance : (b : Branch) (chance : ℚ) → mul_walk one_ℚ b.probability ≡ Ok chance → product_from one_ℚ (b.probability ∷ []) ≡ Ok chance
branch_chance b chance e = then_ok (mul_walk one_ℚ b.probability) chance (λ n. Ok n) e

pub branch_step : (branches : List Branch) (built : List Scenario) (path : List ℕ) (rest : List (List ℕ)) (chance : ℚ) → mul_walk one_ℚ (get_or branches (length built) no_branch).probability ≡ Ok chance →
    branch_paths branches built (path ∷ rest) ≡ branch_paths branches (built ++ record { name = (get_or branches (length built) no_branch).name; probability = chance; path = path } ∷ []) rest
branch_step branches built path rest chance e =
    then_ok (product_from one_ℚ ((get_or branches (length built) no_branch).probability ∷ [])) chance
    (λ chance. branch_paths branches (built ++ record { name = (get_or branches (length built) no_branch).name; probability = chance; path = path } ∷ []) rest) (branch_chance (get_or branches (length built) no_branch) chance e)

pub branch_ends : (branches : List Branch) (built : List Scenario) (path : List ℕ) (rest : List (List ℕ)) (p : Operation) → mul_walk one_ℚ (get_or branches (length built) no_branch).probability ≡ Err p → branch_paths branches built (path ∷ rest) ≡ Err p
branch_ends branches built path rest p e =
    then_err (product_from one_ℚ ((get_or branches (length built) no_branch).probability ∷ [])) p
    (λ chance. branch_paths branches (built ++ record { name = (get_or branches (length built) no_branch).name; probability = chance; path = path } ∷ []) rest)
    (then_err (mul_walk one_ℚ (get_or branches (length built) no_branch).probability) p (λ n. Ok n) e)

pub block_step : (blocks : List Block) (wheels : List Wheel) (built : List Scenario) (path : List ℕ) (rest : List (List ℕ)) (chance : ℚ) →
    product_from one_ℚ (chances_of blocks wheels (digits_at (sizes_of wheels) (length built))) ≡ Ok chance →
    block_paths blocks wheels built (path ∷ rest) ≡ block_paths blocks wheels (built ++ record { name = 83 ∷ digits (length built + 1); probability = chance; path = path } ∷ []) rest
block_step blocks wheels built path rest chance e =
    then_ok (product_from one_ℚ (chances_of blocks wheels (digits_at (sizes_of wheels) (length built)))) chance
    (λ chance. block_paths blocks wheels (built ++ record { name = 83 ∷ digits (length built + 1); probability = chance; path = path } ∷ []) rest) e

pub block_ends : (blocks : List Block) (wheels : List Wheel) (built : List Scenario) (path : List ℕ) (rest : List (List ℕ)) (p : Operation) →
    product_from one_ℚ (chances_of blocks wheels (digits_at (sizes_of wheels) (length built))) ≡ Err p → block_paths blocks wheels built (path ∷ rest) ≡ Err p
block_ends blocks wheels built path rest p e =
    then_err (product_from one_ℚ (chances_of blocks wheels (digits_at (sizes_of wheels) (length built)))) p
    (λ chance. block_paths blocks wheels (built ++ record { name = 83 ∷ digits (length built + 1); probability = chance; path = path } ∷ []) rest) e

pub node_step : (defs : List RowDef) (debuts : List Debut) (positions : List Position) (built : List (Option Node)) (d : Values) (rest : List Values) (rows : List NodeRow) → value_rows defs [] d.rows ≡ Ok rows →
    value_nodes defs debuts positions built (d ∷ rest)
    ≡ value_nodes defs debuts positions (built ++ Some (value_node (get_or debuts (length built) no_debut) (get_or positions (length built) Root) d rows) ∷ []) rest
node_step defs debuts positions built d rest rows e =
    then_ok (value_rows defs [] d.rows) rows (λ rows. value_nodes defs debuts positions (built ++ Some (value_node (get_or debuts (length built) no_debut) (get_or positions (length built) Root) d rows) ∷ []) rest) e

-- ---- the program

past : {X Y : Type 0} (w : Result X Operation) (v : Result Y Operation) → IsOk w → then_walk w (λ x. v) ≡ v
past (Ok x) v fine = refl
past (Err p) v fine = absurd (cc)

-- the lists that make the program
pub finish_parts : (core : Core) (p : Stages) (debuts : List Debut) (positions : List Position) (scenarios : List Scenario) (all : List Values) (nodes : List (Option Node))
    (objective rhs : List ℕ) (periods : List (List ℕ)) (columns : List Column) (rows : List Row)
    → GivesPrograms (finish_walk core p debuts positions scenarios all) → IsOk (chances_walk positions scenarios) → value_nodes core.rows.items debuts positions [] all ≡ Ok nodes
    → objective ≡ core.objective → rhs ≡ core.rhs_set → periods ≡ p.names → columns ≡ columns_from p 0 core.columns.items → rows ≡ rows_from p 0 core.rows.items
    → IsProgram (record { objective = objective; rhs = rhs; periods = periods; columns = columns; rows = rows; nodes = nodes; scenarios = scenarios })
finish_parts core p debuts positions scenarios all nodes objective rhs periods columns rows keeps fine made a b c d e =
    rw (a, b, c, d, e) (keeps (program_of core p nodes scenarios)
    (past (chances_walk positions scenarios) _ fine ∙ then_ok (value_nodes core.rows.items debuts positions [] all) nodes (λ nodes. Ok (program_of core p nodes scenarios)) made))
