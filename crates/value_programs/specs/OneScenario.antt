-- The program of one scenario by itself: what would be decided by someone who knew that it comes.
use Rattle.std.specs.Prelude.{ℕ, suc, List, [], ◌∷◌, Option, Some}
use Rattle.scen_defs.specs.Program.{Node, Scenario, Program, node_at}
use Rattle.value_programs.specs.Line.{in_line, stage_before}

-- the nodes of a path, numbered by stage from s on
abbrev pub path_nodes : List (Option Node) → ℕ → List ℕ → List (Option Node)
path_nodes nodes s [] = []
path_nodes nodes s (n ∷ path) = Some (record (node_at nodes n) { parent = stage_before s }) ∷ path_nodes nodes (suc s) path

-- the program in which this scenario is the only one
abbrev pub scenario_program : Program → Scenario → Program
scenario_program p c = in_line p c.name (path_nodes p.nodes 0 c.path)
