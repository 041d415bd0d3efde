use Rattle.std.proofs.Common.{◌≡◌, Option, refl, subst}
use Rattle.std.specs.Prelude.{IfSome}
use Rattle.scen_defs.specs.Program.{content, view_of}
use Rattle.scen_defs.specs.declared.report.Report.{Report}
use Rattle.report_defs.specs.Truth.{IsTrue, HasCounts}
use Rattle.proved_report.specs.Reports.{EqualIsOptimal}
use Rattle.smps_session.specs.Lists.{ListsAreOf}
use Rattle.smps_session.specs.Reasons.{told_reasons}
use Rattle.smps_session.specs.Whole.{TellsWhole}
use Rattle.smps_session.proofs.based.told_of_basis.Goals as goal

pub returns : goal.returns
returns c =
    let program = c.args.program.now in
    let is = c.in-Some-2.is in
    let shown = c.in_ok-report.ensures in
    record {
      program = program;
      content_is = refl;
      report = c.in-Some-2.report;
      number_is = subst (λ (o : Option Report). IfSome o (λ (r : Report). r.number ≡ 1)) is shown.number;
      text = c.in_ok-told.ensures.text;
      finding = c.in_ok-told.ensures.finding;
      counts = subst (λ (o : Option Report). IfSome o (HasCounts (view_of (content program)))) is shown.counts;
      truth = subst (λ (o : Option Report). IfSome o (IsTrue (view_of (content program))
          (told_reasons program (record { solves = c.args.solves; pivots = c.args.pivots })))) is shown.truth;
      lists = subst (λ (o : Option Report). IfSome o (ListsAreOf (content program))) is shown.lists;
      equal = subst (λ (o : Option Report). IfSome o EqualIsOptimal) is shown.equal;
      whole = subst (λ (o : Option Report). IfSome o (TellsWhole program)) is shown.whole;
    }
