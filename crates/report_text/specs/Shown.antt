-- The text of a program: the counts of its parts, then each scenario with its probability and its path.
use Rattle.std.specs.Prelude.{ℕ, ◌+◌, List, [], ◌∷◌, ◌++◌, Option, Some, None, length, codes}
use Rattle.std.specs.List.{flat_map}
use Rattle.std.specs.Fmt.{decimal}
use Rattle.frac128.specs.Text.{text_of}
use Rattle.scen_defs.specs.Program.{Program, Node, Scenario}

-- how many nodes there are, without those that were dropped
abbrev pub live_count : List (Option Node) → ℕ
live_count [] = 0
live_count (None ∷ nodes) = live_count nodes
live_count (Some node ∷ nodes) = 1 + live_count nodes

-- the nodes by stage
abbrev pub path_text : List ℕ → List ℕ
path_text path = flat_map (λ node. 32 ∷ decimal node) path

abbrev pub scenario_text : Scenario → List ℕ
scenario_text s = codes "SCENARIO " ++ s.name ++ 32 ∷ text_of s.probability ++ path_text s.path ++ 10 ∷ []

abbrev pub shape_text : Program → List ℕ
shape_text program =
    codes "PERIODS " ++ decimal (length program.periods) ++ codes " COLUMNS " ++ decimal (length program.columns) ++ codes " ROWS "
    ++ decimal (length program.rows)

abbrev pub tree_text : Program → List ℕ
tree_text program =
    codes " NODES " ++ decimal (live_count program.nodes) ++ codes " SCENARIOS " ++ decimal (length program.scenarios) ++ 10 ∷ []

abbrev pub program_text : Program → List ℕ
program_text program = shape_text program ++ tree_text program ++ flat_map scenario_text program.scenarios ++ codes "END\n"
