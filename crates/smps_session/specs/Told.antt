-- The reports of a script.
use Rattle.std.specs.Prelude.{◌≡◌, ℕ, ◌+◌, List, [], ◌∷◌}
use Rattle.scen_defs.specs.Program.{Program, content, view_of}
use Rattle.scen_defs.specs.declared.program.Program.{Program as ProgramOf}
use Rattle.scen_defs.specs.declared.report.Report.{Report}
use Rattle.proved_report.specs.Reports.{EqualIsOptimal}
use Rattle.report_defs.specs.Truth.{IsTrue, HasCounts}
use Rattle.report_text.specs.Text.{report_text}
use Rattle.edit_defs.specs.declared.edit.Act.TheVariants.{Change, Solve}
use Rattle.edit_defs.specs.declared.edit.Item.{Item}
use Rattle.edit_defs.specs.After.{after}
use Rattle.pass_core.specs.declared.budget.Budget.{Budget}
use Rattle.nested_method.specs.declared.method.Method.{Method}
use Rattle.nested_method.specs.Stands.{HasFewNodes, Begins}
use Rattle.smps_session.specs.Comes.{ComesOf, TakesEdit}
use Rattle.smps_session.specs.Lists.{ListsAreOf}
use Rattle.smps_session.specs.Reasons.{told_reasons}
use Rattle.smps_session.specs.Shorter.{IsPrinted}
use Rattle.smps_session.specs.declared.whole.StatedLimits.{StatedLimits}
use Rattle.smps_session.specs.declared.told.Told.{Told}

-- What is told is the text and the finding of a report of this number that is true of the program, found within the budget, of which some
-- numbers are stated. It comes of a method, which goes on from there, behind so many items of a script that starts with another program.
pub record IsTold (budget : Budget) (stated : StatedLimits) (start : Program) (came number : ℕ) (p : Program) (method : Method)
    (told : Told) (next : Method) : Type 0 where
  pub program : ProgramOf
  pub content_is : content program ≡ p
  -- the report that is printed, all of it
  pub report : Report
  pub number_is : report.number ≡ number
  pub text : told.text.items ≡ report_text program report
  pub finding : told.finding ≡ report.finding
  -- its ends are shown by its lists, its finding by its reason; and its counts are the program's
  pub counts : HasCounts (view_of p) report
  pub truth : IsTrue (view_of p) (told_reasons program budget) report
  -- its lists are in order, and stand at columns or rows of the program alone
  pub lists : ListsAreOf p report
  -- it isn't left open where its ends are equal
  pub equal : EqualIsOptimal report
  -- the method's own report, which comes of solves of the nodes of the program, of which there are no more than have numbers
  pub own : Report
  pub comes : HasFewNodes p → ComesOf budget start came program method own next
  -- it is the one that is printed, or the method had stopped, and a claim about the whole program was tested; where that is INFEASIBLE the
  -- ray that is printed may be a shorter one
  pub printed : IsPrinted told.by_whole stated program own report

-- a first one of a method, and those behind it of the method as it is then
abbrev pub IsThen : (Told → Method → Type 0) → (Method → List Told → Type 0) → List Told → Type 0
IsThen first behind [] = ⊥
IsThen first behind (told ∷ tolds) = (next : Method) × (first told next × behind next tolds)

-- One is told for each SOLVE of a script, of the program after the edits before it, and comes of the one method that goes through the
-- script, and makes as many solves before an edit as are asked for. So many items of the script came before these, and they are numbered
-- from this number on.
abbrev pub AreTold : Budget → StatedLimits → Program → ℕ → ℕ → Program → Method → List Item → List Told → Type 0
AreTold budget stated start came number p method [] tolds = tolds ≡ []
AreTold budget stated start came number p method (item ∷ items) tolds = elim item.act [
  | Change e ↦ (next : Method)
      × (TakesEdit p item.work e method next × AreTold budget stated start (came + 1) number (after p e) next items tolds)
  | Solve ↦ IsThen (λ told next. IsTold budget stated start came number p method told next)
      (λ next. AreTold budget stated start (came + 1) (number + 1) p next items) tolds
]

-- the reports of a script come of a method that begins with the program, where that has no more nodes than have numbers
pub record IsScripted (budget : Budget) (stated : StatedLimits) (p : Program) (items : List Item) (tolds : List Told) : Type 0 where
  pub method : Method
  pub begins : HasFewNodes p → Begins p budget method
  pub told : AreTold budget stated p 0 1 p method items tolds
