-- What `solve` and `check` say of a program, in the words of linear programming. How it was found isn't spoken of.
use Rattle.std.specs.Prelude.{◌≡◌, ◌⊎◌, ⊤, ℕ, ◌+◌, Bool, true, false, not, ◌||◌, List, [], ◌∷◌, ◌++◌, length, Option, Some, None, IfSome}
use Rattle.std.specs.List.{flat_map}
use Rattle.rationals.specs.Rational.{ℚ, ◌≤ℚ◌}
use Rattle.smps_io.specs.Files.{Files}
use Rattle.smps_io.specs.Faults.{RoseBy}
use Rattle.smps_io.specs.Puts.{Appends}
use Rattle.scen_defs.specs.Lists.{Each}
use Rattle.scen_defs.specs.Values.{At, at, AreValues}
use Rattle.scen_defs.specs.Program.{Program, View, view_of}
use Rattle.scen_defs.specs.Names.{column_names}
use Rattle.scen_defs.specs.Flat.{Feasible, cost}
use Rattle.scen_defs.specs.declared.program.Program.{Program as ProgramOf}
use Rattle.scen_defs.specs.declared.report.Finding.{Finding}
use Rattle.scen_defs.specs.declared.report.Finding.TheVariants.{Optimal, Infeasible, Unbounded, OpenSolves, OpenPivots, OpenPassed}
use Rattle.scen_defs.specs.declared.report.Report.{Report}
use Rattle.edit_defs.specs.declared.edit.Act.TheVariants.{Change, Solve}
use Rattle.edit_defs.specs.declared.edit.Item.{Item}
use Rattle.edit_defs.specs.After.{after}
use Rattle.report_defs.specs.Truth.{HasCounts}
use Rattle.report_text.specs.Text.{report_text}
use Rattle.report_reader.specs.Stated.{IsStated}
use Rattle.script_checks.specs.declared.single.Checked.{Checked}
use Rattle.script_checks.specs.Checked.{holds, all_hold, line_of}
use Rattle.command_words.specs.declared.command.RiskMeasure.{RiskMeasure}
use Rattle.command_words.specs.declared.command.Task.TheVariants as task
use Rattle.command_words.specs.Commands.{FileNames, Asked}
use Rattle.command_words.specs.Commands.Asked.{OnFiles}
use Rattle.input_files.specs.Fetched.{Texts, AreGiven}
use Rattle.program_files.specs.Meant.{MeansProgram}
use Rattle.program_files.specs.Edited.{MeansScript, or_empty}
use Rattle.tail_risk.specs.Risk.{risk}
use Rattle.tail_risk.specs.TailNames.{h_name, u_name}
use Rattle.tail_risk.specs.TailRow.{h_column}
use Rattle.exit_status.specs.declared.status.Status.{Status}
use Rattle.exit_status.specs.declared.status.Status.TheVariants.{Done, SomeOpen}
use Rattle.exit_status.specs.Findings.{is_open_finding, open_status}

-- ---- policies, and what they cost

-- a policy has a value for each node and column
abbrev pub Policy : Type 0
Policy = ℕ → ℕ → ℚ

-- No feasible policy of the program costs less than v.
abbrev pub NoneIsCheaper : View → (Policy → ℚ) → ℚ → Type 0
NoneIsCheaper p cost_of v = (x : Policy) → Feasible p x → v ≤ℚ cost_of x

-- The policy is feasible and costs v, and no feasible policy costs less.
abbrev pub PolicyIsLeast : View → (Policy → ℚ) → Policy → ℚ → Type 0
PolicyIsLeast p cost_of policy v = Feasible p policy × (cost_of policy ≡ v) × NoneIsCheaper p cost_of v

-- what is to be least, and which columns a report may have behind those of the program
pub record Aim : Type 0 where
  pub cost_of : Program → Policy → ℚ
  pub added : List (List ℕ)

-- the expected cost
abbrev pub expected_cost : Aim
expected_cost = record { cost_of = λ p. cost (view_of p); added = [] }

-- With --tail and --weight: 1 - weight times the expected cost, and weight times a threshold and the mean of what scenarios cost above it,
-- divided by 1 - level. The least of the latter over all thresholds is the conditional value at risk. The threshold is the value of the
-- column TAIL_H at the root.
abbrev pub weighted_risk : RiskMeasure → Aim
weighted_risk m = record {
  cost_of = λ p x. risk (view_of p) m.level m.weight x (x 0 (h_column p));
  added = h_name ∷ u_name ∷ [];
}

-- ---- what a report says

-- The policy that is printed is feasible and costs at most this.
pub record PrintsPolicy (p : View) (cost_of : Policy → ℚ) (report : Report) (most : ℚ) : Type 0 where
  pub policy : List At
  pub printed : report.policy ≡ Some policy
  pub feasible : Feasible p (at policy)
  pub costs : cost_of (at policy) ≤ℚ most

-- OPTIMAL: both ends are v, and the policy that is printed is feasible and costs v, and no feasible policy costs less.
pub record OptimalIsSo (p : View) (cost_of : Policy → ℚ) (report : Report) : Type 0 where
  pub v : ℚ
  pub lower : report.lower ≡ Some v
  pub upper : report.upper ≡ Some v
  pub policy : List At
  pub printed : report.policy ≡ Some policy
  pub least : PolicyIsLeast p cost_of (at policy) v

-- INFEASIBLE: no policy is feasible.
pub record InfeasibleIsSo (p : View) : Type 0 where
  pub none : (x : Policy) → Feasible p x → ⊥

-- UNBOUNDED: the policy that is printed is feasible and costs at most UPPER, and feasible policies cost as little as one likes.
pub record UnboundedIsSo (p : View) (cost_of : Policy → ℚ) (report : Report) : Type 0 where
  pub upper : ℚ
  pub upper_is : report.upper ≡ Some upper
  pub policy : PrintsPolicy p cost_of report upper
  pub endless : (limit : ℚ) → (x : Policy) × Feasible p x × (cost_of x ≤ℚ limit)

-- OPEN: where LOWER is a number, no feasible policy costs less; where UPPER is one, the policy that is printed is feasible and costs at
-- most that.
pub record OpenIsSo (p : View) (cost_of : Policy → ℚ) (report : Report) : Type 0 where
  pub lower : IfSome report.lower (NoneIsCheaper p cost_of)
  pub upper : IfSome report.upper (PrintsPolicy p cost_of report)

-- by what stands after STATUS
abbrev pub StatusIsSo : View → (Policy → ℚ) → Report → Finding → Type 0
StatusIsSo p cost_of report Optimal = OptimalIsSo p cost_of report
StatusIsSo p cost_of report Infeasible = InfeasibleIsSo p
StatusIsSo p cost_of report Unbounded = UnboundedIsSo p cost_of report
StatusIsSo p cost_of report (OpenSolves n) = OpenIsSo p cost_of report
StatusIsSo p cost_of report (OpenPivots k) = OpenIsSo p cost_of report
StatusIsSo p cost_of report (OpenPassed place o) = OpenIsSo p cost_of report

-- The report has as many nodes and scenarios as the program, and its status is so.
pub record ReportIsSo (aim : Aim) (p : Program) (report : Report) : Type 0 where
  pub counts : HasCounts (view_of p) report
  pub status : StatusIsSo (view_of p) (aim.cost_of p) report report.finding

-- ---- of which programs

-- the programs that reports are asked for: at each SOLVE the one after the edits before it
abbrev pub asked_programs : Program → List Item → List Program
asked_programs p [] = []
asked_programs p (item ∷ items) = elim item.act [
  | Change e ↦ asked_programs (after p e) items
  | Solve ↦ p ∷ asked_programs p items
]

-- The texts ask for reports of these programs: they mean a program, and the edit list a script for it. Without an edit list it is one
-- report, of the program.
pub record AskFor (texts : Texts) (programs : List Program) : Type 0 where
  pub program : Program
  pub means : MeansProgram texts program
  pub items : List Item
  pub script : MeansScript texts program items
  pub programs_are : programs ≡ asked_programs program items
  pub alone : texts.edits ≡ None → programs ≡ program ∷ []

-- With a risk measure no edit list is read.
abbrev pub AskForOne : Texts → List Program → Type 0
AskForOne texts programs = (program : Program) × MeansProgram texts program × (programs ≡ program ∷ [])

-- ---- solve

-- a report, and the program with whose names it is printed
pub record Printed : Type 0 where
  pub program : ProgramOf
  pub report : Report

abbrev pub printed_text : Printed → List ℕ
printed_text one = report_text one.program one.report

-- one of them is open
abbrev pub is_one_open : List Printed → Bool
is_one_open [] = false
is_one_open (one ∷ others) = is_open_finding one.report.finding || is_one_open others

-- It has this number and the names of the program's columns, its policy has each of them once at most at a node, and what it says is so.
pub record IsSolved (aim : Aim) (number : ℕ) (p : Program) (one : Printed) : Type 0 where
  pub number_is : one.report.number ≡ number
  pub names : column_names one.program.columns.items ≡ column_names p.columns ++ aim.added
  pub once : IfSome one.report.policy AreValues
  pub is_so : ReportIsSo aim p one.report

-- one for each program, numbered from here on
abbrev pub AreSolved : Aim → ℕ → List Program → List Printed → Type 0
AreSolved aim number [] printed = printed ≡ []
AreSolved aim number (p ∷ programs) [] = ⊥
AreSolved aim number (p ∷ programs) (one ∷ printed) = IsSolved aim number p one × AreSolved aim (number + 1) programs printed

-- The output is the texts of reports, REPORT 1 and so on, one for each program, and nothing else. The status is 1 where one is OPEN, and 0
-- where none is.
pub record PrintsSolved (aim : Aim) (programs : List Program) (texts : Texts) (status : Status) (output : List ℕ) : Type 0 where
  pub printed : List Printed
  pub are : AreSolved aim 1 programs printed
  pub text : output ≡ flat_map printed_text printed
  pub status_is : status ≡ open_status (is_one_open printed)

-- ---- check

-- Where its line is HOLDS, what the report says is so.
pub record IsJudged (aim : Aim) (p : Program) (report : Report) (check : Checked) : Type 0 where
  pub number_is : check.number ≡ report.number
  pub is_so : holds check.outcome ≡ true → ReportIsSo aim p report

-- one for each report, of its program
abbrev pub AreJudged : Aim → List Program → List Report → List Checked → Type 0
AreJudged aim [] reports checks = checks ≡ []
AreJudged aim (p ∷ programs) [] checks = checks ≡ []
AreJudged aim (p ∷ programs) (report ∷ reports) [] = ⊥
AreJudged aim (p ∷ programs) (report ∷ reports) (check ∷ checks) = IsJudged aim p report check × AreJudged aim programs reports checks

-- The report file states reports, with the names of the program's columns; the output is a line for each, and nothing else. The status is
-- 0 where all are HOLDS, and 1 where one isn't.
pub record PrintsJudged (aim : Aim) (programs : List Program) (texts : Texts) (status : Status) (output : List ℕ) : Type 0 where
  pub named : ProgramOf
  pub names : Each (λ (p : Program). column_names named.columns.items ≡ column_names p.columns ++ aim.added) programs
  pub reports : List Report
  pub stated : IsStated named (or_empty texts.report) reports
  pub checks : List Checked
  pub are : AreJudged aim programs reports checks
  pub text : output ≡ flat_map line_of checks
  pub status_is : status ≡ open_status (not (all_hold checks))

-- ---- a run

-- so of the programs that the texts ask for
pub record Says (ask : Texts → List Program → Type 0) (prints : List Program → Texts → Status → List ℕ → Type 0) (texts : Texts)
    (status : Status) (output : List ℕ) : Type 0 where
  pub programs : List Program
  pub asked : ask texts programs
  pub says : prints programs texts status output

-- Texts were given for the files that are named, those of the shelf where it tells what it holds, and an output was written, all of it, of
-- which this holds. A sink that doesn't tell what was written took as many bytes.
pub record WritesTruths (prints : Texts → Status → List ℕ → Type 0) (files : Option Files) (names : FileNames)
    (before after : Option (List ℕ)) (taken taken_after : ℕ) (status : Status) : Type 0 where
  pub texts : Texts
  pub given : AreGiven files names texts
  pub output : List ℕ
  pub tells : prints texts status output
  pub written : Appends before output after
  pub took : RoseBy taken (length output) taken_after

-- by the words; of other commands nothing is said here
abbrev pub HeadlineFor : Option Asked → Option Files → Option (List ℕ) → Option (List ℕ) → ℕ → ℕ → Status → Type 0
HeadlineFor (Some (OnFiles names (task.Solve budget))) files before after taken taken_after status =
    WritesTruths (Says AskFor (PrintsSolved expected_cost)) files names before after taken taken_after status
HeadlineFor (Some (OnFiles names (task.SolveBasis budget))) files before after taken taken_after status =
    WritesTruths (Says AskFor (PrintsSolved expected_cost)) files names before after taken taken_after status
HeadlineFor (Some (OnFiles names (task.SolveRisk m budget))) files before after taken taken_after status =
    WritesTruths (Says AskForOne (PrintsSolved (weighted_risk m))) files names before after taken taken_after status
HeadlineFor (Some (OnFiles names task.Check)) files before after taken taken_after status =
    WritesTruths (Says AskFor (PrintsJudged expected_cost)) files names before after taken taken_after status
HeadlineFor (Some (OnFiles names (task.CheckRisk m))) files before after taken taken_after status =
    WritesTruths (Says AskForOne (PrintsJudged (weighted_risk m))) files names before after taken taken_after status
HeadlineFor asked files before after taken taken_after status = ⊤

-- Where a run of `solve` or `check` ends with status 0 or 1, what it wrote is so.
abbrev pub Headline : Option Asked → Option Files → Option (List ℕ) → Option (List ℕ) → ℕ → ℕ → Status → Type 0
Headline asked files before after taken taken_after status =
    (status ≡ Done) ⊎ (status ≡ SomeOpen) → HeadlineFor asked files before after taken taken_after status
