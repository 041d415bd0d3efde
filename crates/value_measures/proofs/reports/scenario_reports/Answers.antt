use Rattle.std.proofs.Common.{◌<◌, length, arith}
use Rattle.scen_defs.specs.Program.{Program, content}
use Rattle.scen_defs.proofs.Contents.{scenarios_length}
use Rattle.value_measures.specs.Reports.{budget_of_limits}
use Rattle.value_measures.proofs.ReportLemmas.{one_more, all_there}
use Rattle.value_measures.proofs.reports.scenario_reports.Goals as goal

pub loop-place-preserved : goal.loop-place-preserved
loop-place-preserved g c =
    let p : Program = content c.args.program.now in
    let within : c.loop-place.place < length p.scenarios = omega (arith, c.loop-place-test.true, c.len-place-end.ensures, scenarios_length c.args.program.now.scenarios.items) in
    one_more (budget_of_limits c.args.limits) c.args.limits.stated p p.scenarios c.loop-place.place c.loop-place.all.items c.in_ok-report.report c.push.new.self.items
    within c.in_ok-push.ensures.items c.loop-place.invariant c.in_ok-report.ensures

pub returns : goal.returns
returns g c =
    let p : Program = content c.args.program.now in
    all_there (budget_of_limits c.args.limits) c.args.limits.stated p p.scenarios c.loop-place.place c.loop-place.all.items
    (omega (arith, c.loop-place-test.false, c.len-place-end.ensures, scenarios_length c.args.program.now.scenarios.items)) c.loop-place.invariant
