use Rattle.value_measures.specs.Reports.{budget_of_limits}
use Rattle.value_measures.proofs.ReportLemmas.{prints}
use Rattle.value_measures.proofs.printed.printed_report.Goals as goal

pub returns : goal.returns
returns g c =
    let answered = c.in_ok-answered.answered in
    prints (budget_of_limits c.args.limits) c.args.limits.stated c.args.program.now answered.report c.printed.result
    c.in_ok-answered.ensures.number c.in_ok-answered.ensures.counts c.in_ok-answered.ensures.truth c.in_ok-answered.ensures.equal
    c.in_ok-answered.ensures.comes c.printed.ensures.report c.printed.ensures.text
