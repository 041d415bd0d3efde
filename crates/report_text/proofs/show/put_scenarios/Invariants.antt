use Rattle.std.proofs.Common.{◌≡◌, ◌++◌, drop}
use Rattle.std.specs.List.{flat_map}
use Rattle.scen_defs.specs.Program.{scenarios_content}
use Rattle.report_text.specs.Shown.{scenario_text}
use Rattle.report_text.proofs.show.put_scenarios.Given as goal

abbrev pub invariant-loop-scenario : goal.invariant-loop-scenario
invariant-loop-scenario l = l.out.items ++ flat_map scenario_text (scenarios_content (drop l.scenario-index l.scenarios)) ≡ l.fn.out.items ++ flat_map scenario_text (scenarios_content l.scenarios)
