-- How many nodes and scenarios there are.
use Rattle.std.proofs.Common.{◌≡◌, suc, List, [], ◌∷◌, Option, length, refl, ap}
use Rattle.scen_defs.specs.Program.{nodes_content, scenarios_content}
use Rattle.scen_defs.specs.declared.program.Node.{Node}
use Rattle.scen_defs.specs.declared.program.Scenario.{Scenario}

pub node_places : (nodes : List (Option Node)) → length (nodes_content nodes) ≡ length nodes
node_places [] = refl
node_places (place ∷ nodes) = ap suc (node_places nodes)

pub scenario_places : (scenarios : List Scenario) → length (scenarios_content scenarios) ≡ length scenarios
scenario_places [] = refl
scenario_places (s ∷ scenarios) = ap suc (scenario_places scenarios)
