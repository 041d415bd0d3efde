use Rattle.std.proofs.Common.{◌≡◌, ◌++◌, drop}
use Rattle.scen_defs.specs.Program.{nodes_content}
use Rattle.value_programs.specs.OneScenario.{path_nodes}
use Rattle.value_programs.proofs.one_scenario.nodes_along.Given as goal

abbrev pub invariant-loop-number : goal.invariant-loop-number
invariant-loop-number l = (l.stage ≡ l.number-index) × (nodes_content l.all.items ++ path_nodes (nodes_content l.nodes) l.number-index (drop l.number-index l.path) ≡ path_nodes (nodes_content l.nodes) 0 l.path)
