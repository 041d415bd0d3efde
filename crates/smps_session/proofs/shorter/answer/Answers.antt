use Rattle.std.proofs.Common.{ap, ◌∙◌}
use Rattle.scen_defs.specs.Program.{content, view_of}
use Rattle.scen_defs.specs.declared.report.Report.{Report}
use Rattle.smps_session.proofs.ShorterLemmas.{kept, counts_kept, equal_kept}
use Rattle.smps_session.proofs.shorter.answer.Goals as goal

pub returns-clause-number : goal.returns-clause-number
returns-clause-number g c =
    ap (λ (r : Report). r.number) (kept c.in_ok-answered.answered.report c.in_ok-report.report c.in_ok-report.ensures.ray)
    ∙ c.in_ok-answered.ensures.number

pub returns-clause-counts : goal.returns-clause-counts
returns-clause-counts g c =
    counts_kept (view_of (content c.args.program.now)) c.in_ok-answered.answered.report c.in_ok-report.report
    (kept c.in_ok-answered.answered.report c.in_ok-report.report c.in_ok-report.ensures.ray) c.in_ok-answered.ensures.counts

pub returns-clause-equal : goal.returns-clause-equal
returns-clause-equal g c =
    equal_kept c.in_ok-answered.answered.report c.in_ok-report.report
    (kept c.in_ok-answered.answered.report c.in_ok-report.report c.in_ok-report.ensures.ray) c.in_ok-answered.ensures.equal

pub returns-clause-printed : goal.returns-clause-printed
returns-clause-printed g c = record {
  found = c.in_ok-answered.answered.report;
  whole = c.in_ok-answered.ensures.whole;
  ray = c.in_ok-report.ensures.ray;
}
