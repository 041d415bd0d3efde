-- What is true of the reports that `solve` prints, whatever found them.
use Rattle.std.specs.Prelude.{◌≡◌, ◌⊎◌, ⊤, ℕ, ◌+◌, true, List, [], ◌∷◌, Option, Some}
use Rattle.std.specs.List.{flat_map}
use Rattle.rationals.specs.Passes.{passes}
use Rattle.smps_io.specs.Files.{Files}
use Rattle.scen_defs.specs.Program.{Program, content, view_of}
use Rattle.edit_defs.specs.declared.edit.Act.TheVariants.{Change, Solve}
use Rattle.edit_defs.specs.declared.edit.Item.{Item}
use Rattle.edit_defs.specs.After.{after}
use Rattle.edit_script.specs.Script.{report_item}
use Rattle.report_defs.specs.Truth.{IsTrue, HasCounts, Reasons}
use Rattle.smps_session.specs.Lists.{ListsAreOf}
use Rattle.command_words.specs.declared.command.RiskMeasure.{RiskMeasure}
use Rattle.command_words.specs.declared.command.Task.TheVariants as task
use Rattle.command_words.specs.Commands.{Asked}
use Rattle.command_words.specs.Commands.Asked.{OnFiles}
use Rattle.input_files.specs.Fetched.{Texts}
use Rattle.program_files.specs.Meant.{MeansProgram}
use Rattle.program_files.specs.Edited.{MeansScript}
use Rattle.tail_risk.specs.TailProgram.{tail_of}
use Rattle.exit_status.specs.declared.status.Status.{Status}
use Rattle.exit_status.specs.declared.status.Status.TheVariants.{Done, SomeOpen}
use Rattle.exit_status.specs.Findings.{open_status}
use Rattle.headline.specs.Headline.{Printed, printed_text, is_one_open, WritesTruths}
use Rattle.smps_cli.specs.Risks.{CostsAreRisks}

-- ---- one report

-- OPEN PASSED names an operation that passes 128 bits. Why else a report is open isn't said.
abbrev pub passing_reasons : Reasons
passing_reasons = record {
  passes = λ place o. passes o.op o.a o.b ≡ true;
  pivots_end = λ k. ⊤;
  solves_end = λ n. ⊤;
}

-- It has this number, is true of this program, and tells how many nodes and scenarios that has; and its lists are lists of that program.
pub record IsTruth (number : ℕ) (p : Program) (one : Printed) : Type 0 where
  pub content_is : content one.program ≡ p
  pub number_is : one.report.number ≡ number
  pub counts : HasCounts (view_of p) one.report
  pub truth : IsTrue (view_of p) passing_reasons one.report
  -- each list that it prints rises by node and then by column or row, has no 0, and stands at live nodes, at columns or rows of their
  -- stages alone
  pub lists : ListsAreOf p one.report

-- ---- all reports

-- There is one for each SOLVE of a script, true of the program after the edits before it. They are numbered from this number on.
abbrev pub AreTruths : ℕ → Program → List Item → List Printed → Type 0
AreTruths number p [] printed = printed ≡ []
AreTruths number p (item ∷ items) printed = elim item.act [
  | Change e ↦ AreTruths number (after p e) items printed
  | Solve ↦ (one : Printed) × (others : List Printed)
      × (printed ≡ one ∷ others) × IsTruth number p one × AreTruths (number + 1) p items others
]

-- The output is their texts, from REPORT 1 on, and nothing else. The status is 1 where one is open, and 0 where none is.
pub record TellsTruths (p : Program) (items : List Item) (status : Status) (output : List ℕ) : Type 0 where
  pub printed : List Printed
  pub truths : AreTruths 1 p items printed
  pub text : output ≡ flat_map printed_text printed
  pub status_is : status ≡ open_status (is_one_open printed)

-- ---- what `solve` prints

-- They are of the program that the texts mean, and of the script that the edit list means for it. So with a basis too, beside which the
-- words take no edit list: then there is one report.
pub record PrintsTruths (texts : Texts) (status : Status) (output : List ℕ) : Type 0 where
  pub program : Program
  pub means : MeansProgram texts program
  pub items : List Item
  pub script : MeansScript texts program items
  pub tells : TellsTruths program items status output

-- With a risk measure there is one, of the program that is made of the one that the texts mean, whose costs are risks.
pub record PrintsRiskTruth (m : RiskMeasure) (texts : Texts) (status : Status) (output : List ℕ) : Type 0 where
  pub read : Program
  pub means : MeansProgram texts read
  pub made : Program
  pub made_is : made ≡ tail_of read m.level m.weight
  pub risks : CostsAreRisks m read made
  pub tells : TellsTruths made (report_item ∷ []) status output

-- ---- a run

-- by the words; of commands other than `solve` nothing is said here
abbrev pub TruthsFor : Option Asked → Option Files → Option (List ℕ) → Option (List ℕ) → ℕ → ℕ → Status → Type 0
TruthsFor (Some (OnFiles names (task.Solve budget))) files before after taken taken_after status =
    WritesTruths PrintsTruths files names before after taken taken_after status
TruthsFor (Some (OnFiles names (task.SolveRisk m budget))) files before after taken taken_after status =
    WritesTruths (PrintsRiskTruth m) files names before after taken taken_after status
TruthsFor (Some (OnFiles names (task.SolveBasis budget))) files before after taken taken_after status =
    WritesTruths PrintsTruths files names before after taken taken_after status
TruthsFor asked files before after taken taken_after status = ⊤

-- Where a run of `solve` ends with status 0 or 1, it wrote truths.
abbrev pub RunTruths : Option Asked → Option Files → Option (List ℕ) → Option (List ℕ) → ℕ → ℕ → Status → Type 0
RunTruths asked files before after taken taken_after status =
    (status ≡ Done) ⊎ (status ≡ SomeOpen) → TruthsFor asked files before after taken taken_after status
