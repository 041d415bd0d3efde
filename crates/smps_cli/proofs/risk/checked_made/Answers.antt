use Rattle.std.proofs.Common.{◌≡◌, ◌<◌, ◌-◌, ◌^◌, ℕ, List, length, Ok, refl, sym, subst}
use Rattle.std.proofs.lemmas.Result.{IfOk-weaker}
use Rattle.scen_defs.specs.Program.{content}
use Rattle.scen_defs.specs.declared.report.Report.{Report as ReportOf}
use Rattle.input_files.specs.Unfetched.{texts_view}
use Rattle.program_files.specs.Edited.{or_empty}
use Rattle.report_reader.specs.Reports.{FailOf, reports_of}
use Rattle.report_reader.specs.Stated.{IsStated}
use Rattle.smps_cli.specs.Found.{found_text}
use Rattle.smps_cli.specs.Risks.{ChecksRisk, PrintsRiskChecks}
use Rattle.smps_cli.proofs.RiskLemmas.{told_refused, told_short}
use Rattle.smps_cli.proofs.risk.checked_made.Goals as goal

pub read_reports-requires : goal.read_reports-requires
read_reports-requires c =
    record {
      short = subst (λ (bytes : List ℕ). length bytes < 2 ^ 32 - 1) (sym c.report_bytes.ensures) (told_short (texts_view c.args.texts.now) c.requires.within);
    }

pub checked_reports-requires : goal.checked_reports-requires
checked_reports-requires c =
    subst (λ (reports : List ReportOf). IsStated c.args.made (or_empty (texts_view c.args.texts.now).report) reports) (sym c.deref.ensures.value)
    (subst (λ (bytes : List ℕ). IsStated c.args.made bytes c.in-Ok.reports.items) c.report_bytes.ensures c.in-Ok.ensures.stated)

pub returns-in-Ok : goal.returns-in-Ok
returns-in-Ok c = IfOk-weaker c.checked_reports.result _
    (λ answer. ChecksRisk c.args.measure (texts_view c.args.texts.now) (content c.args.read.now) (content c.args.made) answer.status (found_text answer.found))
    (λ answer h. record {
      program = c.args.made;
      content_is = refl;
      is = c.requires.made;
      reports = Ok c.in-Ok.reports.items;
      told = subst (λ (bytes : List ℕ). reports_of 1 c.args.made bytes ≡ Ok c.in-Ok.reports.items) c.report_bytes.ensures c.in-Ok.ensures.exact;
      comes = subst (λ (reports : List ReportOf). PrintsRiskChecks (texts_view c.args.texts.now) c.args.made reports answer.status (found_text answer.found))
          c.deref.ensures.value h;
    })
    c.checked_reports.ensures

pub returns : goal.returns
returns c = IfOk-weaker c.untold.result _
    (λ answer. ChecksRisk c.args.measure (texts_view c.args.texts.now) (content c.args.read.now) (content c.args.made) answer.status (found_text answer.found))
    (λ answer h. record {
      program = c.args.made;
      content_is = refl;
      is = c.requires.made;
      reports = reports_of 1 c.args.made (or_empty (texts_view c.args.texts.now).report);
      told = refl;
      comes = told_refused (texts_view c.args.texts.now) c.args.made (reports_of 1 c.args.made (or_empty (texts_view c.args.texts.now).report)) c.in-Err.fail
          answer.status (found_text answer.found)
          (subst (λ (bytes : List ℕ). FailOf (reports_of 1 c.args.made bytes) c.in-Err.fail) c.report_bytes.ensures c.in-Err.ensures.exact) h;
    })
    c.untold.ensures
