use Rattle.std.proofs.Common.{◌≡◌, drop}
use Rattle.scen_defs.specs.Program.{scenarios_content}
use Rattle.scen_tree.specs.Sums.{sums_through}
use Rattle.scen_tree.proofs.SumLemmas.{finished}
use Rattle.scen_tree.proofs.totals.sums_through.Given as goal

abbrev pub invariant-loop-scenario : goal.invariant-loop-scenario
invariant-loop-scenario l = finished (scenarios_content (drop l.scenario-index l.scenarios)) 0 l.sums.items ≡ sums_through 0 l.count (scenarios_content l.scenarios)
