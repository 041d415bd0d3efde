use Rattle.std.proofs.Common.{drop}
use Rattle.scen_defs.specs.Program.{scenarios_content}
use Rattle.scen_defs.specs.Walks.{total_from}
use Rattle.scen_model.specs.Gathered.{everywhere}
use Rattle.scen_model.proofs.Gathers.{Same}
use Rattle.scen_model.proofs.totals.add_paths.Given as goal

abbrev pub invariant-loop-scenario : goal.invariant-loop-scenario
invariant-loop-scenario l = Same everywhere total_from l.sums (scenarios_content (drop l.scenario-index l.scenarios)) l.initial.sums (scenarios_content l.scenarios)
