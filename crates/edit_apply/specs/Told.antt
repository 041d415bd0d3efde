-- The scenarios after PROB, DROP and ADD: their own operations, and behind them those of the tree.
use Rattle.std.specs.Prelude.{ℕ, Bool, false, List, ◌++◌, map, length, replicate, Option, None, Result}
use Rattle.rationals.specs.Rational.{ℚ}
use Rattle.rationals.specs.Passes.{Operation, then_walk}
use Rattle.scen_defs.specs.Program.{Node, Scenario, Program}
use Rattle.scen_tree.specs.Trees.{position_of}
use Rattle.edit_defs.specs.After.{copies, scenario_named}
use Rattle.edit_apply.specs.Kept.{kept_from, with_paths}
use Rattle.edit_chances.specs.Scaled.{add_walk_from, drop_walk, prob_walk, tested_walk}

abbrev pub prob_told : Program → List ℕ → ℚ → Result (List Scenario) Operation
prob_told p name q = then_walk (prob_walk p.scenarios name q) (λ ss. tested_walk (map position_of p.nodes) ss)

-- which of the nodes these scenarios pass
abbrev pub marks_by : List Scenario → List (Option Node) → List Bool
marks_by ss nodes = with_paths ss 0 (replicate (length nodes) false)

abbrev pub drop_told : Program → List ℕ → Result (List Scenario) Operation
drop_told p name = then_walk (drop_walk p.scenarios name)
    (λ ss. tested_walk (map position_of (kept_from (marks_by ss p.nodes) 0 p.nodes)) ss)

abbrev pub new_nodes : Program → List ℕ → ℕ → List (Option Node)
new_nodes p parent t = copies p.nodes t None (length p.nodes) (scenario_named parent p.scenarios).path

abbrev pub add_told : Program → Scenario → List (Option Node) → Result (List Scenario) Operation
add_told p new nodes = then_walk (add_walk_from p.scenarios new)
    (λ ss. tested_walk (map position_of p.nodes ++ map position_of nodes) ss)
