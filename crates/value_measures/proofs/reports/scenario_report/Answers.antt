use Rattle.std.proofs.Common.{◌∙◌, ap, subst}
use Rattle.scen_defs.specs.Program.{Scenario, Program, content}
use Rattle.value_programs.proofs.OneScenarioKeeps.{scenario_read}
use Rattle.value_measures.specs.Reports.{IsReportOf, budget_of_limits}
use Rattle.value_measures.proofs.reports.scenario_report.Goals as goal

pub returns : goal.returns
returns g c =
    let p : Program = content c.args.program.now in
    let here = scenario_read c.args.program.now.scenarios.items c.args.place c.index-scenario.result.now c.requires c.index-scenario.ensures in
    record {
      name = c.in_ok-name.ensures ∙ ap (λ (s : Scenario). s.name) here;
      probability = ap (λ (s : Scenario). s.probability) here;
      is_report = subst (λ (q : Program). IsReportOf (budget_of_limits c.args.limits) c.args.limits.stated q c.in_ok-printed.printed)
          c.in_ok-only.ensures c.in_ok-printed.ensures;
    }
