-- What `solve` and `check` print of the program whose cost is a risk measure.
use Rattle.std.specs.Prelude.{◌≡◌, ◌⊎◌, ℕ, not, List, [], ◌∷◌, Result, Ok, Err, None}
use Rattle.std.specs.List.{flat_map}
use Rattle.refusals.specs.declared.cause.Cause.{Cause}
use Rattle.refusals.specs.declared.cause.Cause.TheVariants.{ScenarioLimit, Passes, TailName}
use Rattle.refusals.specs.declared.cause.Refusal.{Refusal}
use Rattle.refusals.specs.declared.cause.ReadFail.{ReadFail}
use Rattle.refusals.specs.declared.cause.ReadFail.TheVariants as fail
use Rattle.rationals.specs.Rational.{ℚ, ◌≤ℚ◌}
use Rattle.scen_defs.specs.Program.{Program, content, view_of}
use Rattle.scen_defs.specs.Flat.{Feasible, cost}
use Rattle.scen_defs.specs.declared.program.Program.{Program as ProgramOf}
use Rattle.scen_defs.specs.declared.report.Report.{Report as ReportOf}
use Rattle.edit_defs.specs.Shifts.{HasWidths}
use Rattle.edit_script.specs.Script.{report_item}
use Rattle.command_words.specs.declared.command.Budget.{Budget}
use Rattle.command_words.specs.declared.command.RiskMeasure.{RiskMeasure}
use Rattle.input_files.specs.declared.kind.FileKind.{FileKind}
use Rattle.input_files.specs.declared.kind.FileKind.TheVariants.{Report}
use Rattle.input_files.specs.Fetched.{Texts}
use Rattle.program_files.specs.Meant.{MeansProgram}
use Rattle.program_files.specs.Edited.{or_empty}
use Rattle.report_reader.specs.Reports.{reports_of}
use Rattle.report_reader.specs.Stated.{IsStated}
use Rattle.tail_risk.specs.Risk.{ExtendsPoint, risk}
use Rattle.tail_risk.specs.TailProgram.{tail_of}
use Rattle.tail_risk.specs.TailRow.{h_column}
use Rattle.tail_risk.specs.TailWalk.{tail_end}
use Rattle.tail_risk.specs.declared.fault.TailFault.{TailFault}
use Rattle.tail_risk.specs.declared.fault.TailFault.TheVariants.{Name, Limit, Passed, Memory}
use Rattle.nested_method.specs.Stands.{HasFewNodes}
use Rattle.smps_session.specs.declared.told.Told.{Told}
use Rattle.smps_session.specs.Told.{IsScripted}
use Rattle.smps_session.specs.Comes.{IsOnTree}
use Rattle.script_checks.specs.declared.single.Checked.{Checked}
use Rattle.script_checks.specs.Checked.{AreChecked, line_of, all_hold}
use Rattle.exit_status.specs.declared.status.Status.{Status}
use Rattle.exit_status.specs.declared.status.Status.TheVariants.{Refused}
use Rattle.exit_status.specs.Findings.{open_status}
use Rattle.exit_status.specs.Lines.{refused_text}
use Rattle.smps_cli.specs.Ends.{MayEnd, RefusesTexts}
use Rattle.smps_cli.specs.Flat.{RefusesCore}
use Rattle.smps_cli.specs.Solved.{stated_of, told_text, any_open}

-- ---- the program
-- Its costs are those of a mean, weighted by `1 - weight`, and a conditional value at risk of this level, weighted by the weight.
pub record CostsAreRisks (m : RiskMeasure) (read made : Program) : Type 0 where
  -- each feasible point of the program that the files mean has, with each number for TAIL_H, a feasible point with its values, at its risk
  pub attained : (x : ℕ → ℕ → ℚ) (h : ℚ) → Feasible (view_of read) x
      → (y : ℕ → ℕ → ℚ) × ExtendsPoint read x h y × Feasible (view_of made) y
      × (cost (view_of made) y ≡ risk (view_of read) m.level m.weight x h)
  -- and each feasible point is feasible for that program, and costs at least its risk
  pub least : (y : ℕ → ℕ → ℚ) → Feasible (view_of made) y
      → Feasible (view_of read) y × (risk (view_of read) m.level m.weight y (y 0 (h_column read)) ≤ℚ cost (view_of made) y)

-- It is the one of this level and weight, whose costs are risks. It has few nodes, is on a tree, and its rows with two finite ends have the
-- widths of their ranges.
pub record IsRiskProgram (m : RiskMeasure) (read made : Program) : Type 0 where
  pub is : made ≡ tail_of read m.level m.weight
  pub risks : CostsAreRisks m read made
  pub few : HasFewNodes made
  pub tree : IsOnTree made
  pub widths : HasWidths made

-- there is none, and the core file is refused as a whole: a name is taken, the program would be too large, or an operation passes
abbrev pub RefusesRisk : TailFault → Status → List ℕ → Type 0
RefusesRisk Name status output = RefusesCore TailName status output
RefusesRisk Limit status output = RefusesCore ScenarioLimit status output
RefusesRisk (Passed p) status output = RefusesCore (Passes p) status output
RefusesRisk Memory status output = ⊥

-- The answer is that of the program, or there is none.
abbrev pub RiskComes : (Program → Status → List ℕ → Type 0) → Result Program TailFault → Status → List ℕ → Type 0
RiskComes answers (Ok made) status output = answers made status output
RiskComes answers (Err fault) status output = RefusesRisk fault status output

-- So for the program that the texts mean. Where there is an edit list, it isn't read.
pub record IsOfRisk (m : RiskMeasure) (texts : Texts) (answers : Program → Program → Status → List ℕ → Type 0) (status : Status)
    (output : List ℕ) : Type 0 where
  pub read : Program
  pub means : MeansProgram texts read
  pub comes : RiskComes (answers read) (tail_end read m.level m.weight) status output

-- ---- solve
-- The output is the text of one report, which is true of the program. Its finding gives the status.
pub record PrintsRisk (m : RiskMeasure) (budget : Budget) (read made : Program) (status : Status) (output : List ℕ) : Type 0 where
  pub program : IsRiskProgram m read made
  pub tolds : List Told
  pub told : IsScripted (record { solves = budget.solves; pivots = budget.pivots }) (stated_of budget) made (report_item ∷ []) tolds
  pub text : output ≡ flat_map told_text tolds
  pub ends : status ≡ open_status (any_open tolds)

abbrev pub IsRiskSolve : RiskMeasure → Budget → Texts → Status → List ℕ → Type 0
IsRiskSolve m budget texts = IsOfRisk m texts (PrintsRisk m budget)

-- The texts have a first fault; or there is no such program of the one that they mean.
abbrev pub RefusesRiskSolve : RiskMeasure → Budget → Texts → FileKind → ℕ → Cause → List ℕ → Type 0
RefusesRiskSolve m budget texts file line cause output =
    RefusesTexts texts file line cause output ⊎ IsRiskSolve m budget texts (Refused file line cause) output

-- What the texts of the files may come to.
abbrev pub MayBeRiskSolved : RiskMeasure → Budget → Texts → Status → List ℕ → Type 0
MayBeRiskSolved m budget texts = MayEnd (IsRiskSolve m budget texts) (RefusesRiskSolve m budget texts)

-- ---- check
-- The output is a line for each report that the file states, one at most: what its check against the program comes to.
pub record PrintsRiskChecks (texts : Texts) (program : ProgramOf) (reports : List ReportOf) (status : Status) (output : List ℕ)
    : Type 0 where
  pub stated : IsStated program (or_empty texts.report) reports
  pub checks : List Checked
  pub checked : AreChecked (content program) (report_item ∷ []) reports checks
  pub text : output ≡ flat_map line_of checks
  pub ends : status ≡ open_status (not (all_hold checks))

-- the report file has this fault, and the line says so
abbrev pub RefusesTold : Refusal → Status → List ℕ → Type 0
RefusesTold refusal status output =
    (status ≡ Refused Report refusal.line refusal.cause) × (output ≡ refused_text None Report refusal.line refusal.cause)

-- why it isn't read
abbrev pub RefusesFail : ReadFail → Status → List ℕ → Type 0
RefusesFail (fail.Refused refusal) status output = RefusesTold refusal status output
RefusesFail fail.Memory status output = ⊥

-- by the reports that the report file states
abbrev pub RiskChecksCome : Texts → ProgramOf → Result (List ReportOf) Refusal → Status → List ℕ → Type 0
RiskChecksCome texts program (Ok reports) status output = PrintsRiskChecks texts program reports status output
RiskChecksCome texts program (Err refusal) status output = RefusesTold refusal status output

-- The report file is read with the names of the program, those that are added among them.
pub record ChecksRisk (m : RiskMeasure) (texts : Texts) (read made : Program) (status : Status) (output : List ℕ) : Type 0 where
  pub program : ProgramOf
  pub content_is : content program ≡ made
  pub is : IsRiskProgram m read made
  pub reports : Result (List ReportOf) Refusal
  pub told : reports_of 1 program (or_empty texts.report) ≡ reports
  pub comes : RiskChecksCome texts program reports status output

abbrev pub IsRiskCheck : RiskMeasure → Texts → Status → List ℕ → Type 0
IsRiskCheck m texts = IsOfRisk m texts (ChecksRisk m texts)

abbrev pub RefusesRiskCheck : RiskMeasure → Texts → FileKind → ℕ → Cause → List ℕ → Type 0
RefusesRiskCheck m texts file line cause output =
    RefusesTexts texts file line cause output ⊎ IsRiskCheck m texts (Refused file line cause) output

-- What the texts of the files may come to.
abbrev pub MayBeRiskChecked : RiskMeasure → Texts → Status → List ℕ → Type 0
MayBeRiskChecked m texts = MayEnd (IsRiskCheck m texts) (RefusesRiskCheck m texts)
