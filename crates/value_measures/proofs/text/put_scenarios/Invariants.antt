use Rattle.std.proofs.Common.{◌≡◌, ◌++◌, drop}
use Rattle.std.specs.List.{flat_map}
use Rattle.value_measures.specs.Text.{scenario_report_text}
use Rattle.value_measures.proofs.text.put_scenarios.Given as goal

abbrev pub invariant-loop-scenario : goal.invariant-loop-scenario
invariant-loop-scenario l = l.out.items ++ flat_map scenario_report_text (drop l.scenario-index l.scenarios) ≡ l.fn.out.items ++ flat_map scenario_report_text l.scenarios
