use Rattle.std.proofs.Common.{◌≡◌, ◌++◌, drop}
use Rattle.scen_defs.specs.Program.{scenarios_content}
use Rattle.scen_nodes.proofs.derived.scenarios.Given as goal

abbrev pub invariant-loop-found : goal.invariant-loop-found
invariant-loop-found l = scenarios_content l.all.items ++ scenarios_content (drop l.found-index l.scenarios) ≡ scenarios_content l.scenarios
