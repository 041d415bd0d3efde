use Rattle.std.proofs.Common.{take}
use Rattle.scen_defs.specs.Program.{content}
use Rattle.value_measures.specs.Reports.{AreOfScenarios, budget_of_limits}
use Rattle.value_measures.proofs.reports.scenario_reports.Given as goal

abbrev pub invariant-loop-place : goal.invariant-loop-place
invariant-loop-place g l =
    AreOfScenarios (budget_of_limits l.limits) l.limits.stated (content l.program) (take l.place (content l.program).scenarios) l.all.items
