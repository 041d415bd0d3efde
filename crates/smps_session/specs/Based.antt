-- The report that a basis shows.
use Rattle.std.specs.Prelude.{◌≡◌}
use Rattle.scen_defs.specs.Program.{Program, content, view_of}
use Rattle.scen_defs.specs.declared.program.Program.{Program as ProgramOf}
use Rattle.scen_defs.specs.declared.report.Report.{Report}
use Rattle.proved_report.specs.Reports.{EqualIsOptimal}
use Rattle.report_defs.specs.Truth.{IsTrue, HasCounts}
use Rattle.report_text.specs.Text.{report_text}
use Rattle.pass_core.specs.declared.budget.Budget.{Budget}
use Rattle.smps_session.specs.Lists.{ListsAreOf}
use Rattle.smps_session.specs.Reasons.{told_reasons}
use Rattle.smps_session.specs.Whole.{TellsWhole}
use Rattle.smps_session.specs.declared.told.Told.{Told}

-- What is told is the text and the finding of report 1, which is true of the program.
pub record TellsBasis (budget : Budget) (p : Program) (told : Told) : Type 0 where
  pub program : ProgramOf
  pub content_is : content program ≡ p
  -- the report that is printed, all of it
  pub report : Report
  pub number_is : report.number ≡ 1
  pub text : told.text.items ≡ report_text program report
  pub finding : told.finding ≡ report.finding
  -- its ends are shown by its lists; and its counts are the program's
  pub counts : HasCounts (view_of p) report
  pub truth : IsTrue (view_of p) (told_reasons program budget) report
  -- its lists are in order, and stand at columns or rows of the program alone
  pub lists : ListsAreOf p report
  pub equal : EqualIsOptimal report
  -- it tells a claim about the whole program, which was tested, and isn't left open
  pub whole : TellsWhole program report
