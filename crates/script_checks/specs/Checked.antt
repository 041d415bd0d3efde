-- What the checks of the reports of a script come to.
use Rattle.std.specs.Prelude.{◌≡◌, ◌⊎◌, ℕ, Bool, true, false, ◌&&◌, List, [], ◌∷◌, Result, Ok, Err}
use Rattle.rationals.specs.Passes.{Operation}
use Rattle.scen_defs.specs.Program.{Program, content, view_of}
use Rattle.scen_defs.specs.declared.program.Program.{Program as ProgramOf}
use Rattle.scen_defs.specs.declared.report.Report.{Report}
use Rattle.edit_defs.specs.declared.edit.Act.TheVariants.{Change, Solve}
use Rattle.edit_defs.specs.declared.edit.Item.{Item}
use Rattle.edit_defs.specs.After.{after}
use Rattle.certificate_check.specs.declared.verdict.Verdict.{Verdict}
use Rattle.certificate_check.specs.declared.verdict.Verdict.TheVariants.{Holds, Fails}
use Rattle.certificate_check.specs.Verdicts.{verdict_of}
use Rattle.certificate_check.specs.Shown.{IsShown}
use Rattle.certificate_check.specs.Text.{verdict_text}
use Rattle.script_checks.specs.declared.single.Checked.{Checked}

abbrev pub is_holding : Verdict → Bool
is_holding Holds = true
is_holding (Fails claim) = false

-- all claims hold, and no operation passed before that was seen
abbrev pub holds : Result Verdict Operation → Bool
holds (Ok verdict) = is_holding verdict
holds (Err passed) = false

-- The check of the report against the program comes to the first claim that fails, or the operation that passes before one; where one
-- passes, it may also come to that all claims hold, as rounded sums show. Where all claims hold, the report is true of the program.
pub record IsCheck (p : Program) (report : Report) (check : Checked) : Type 0 where
  pub program : ProgramOf
  pub content_is : content program ≡ p
  pub number_is : check.number ≡ report.number
  pub outcome_is : (check.outcome ≡ verdict_of program report)
      ⊎ ((check.outcome ≡ Ok Holds) × ((p : Operation) × (verdict_of program report ≡ Err p)))
  pub shown : holds check.outcome ≡ true → IsShown (view_of p) report

-- a first report with its check, and those behind it; without a report no check
abbrev pub AreHeads : (Report → Checked → Type 0) → (List Report → List Checked → Type 0)
    → List Report → List Checked → Type 0
AreHeads first behind [] checks = behind [] checks
AreHeads first behind (report ∷ reports) [] = ⊥
AreHeads first behind (report ∷ reports) (check ∷ checks) = first report check × behind reports checks

-- The reports are checked one for each SOLVE of a script, each against the program after the edits before it.
abbrev pub AreChecked : Program → List Item → List Report → List Checked → Type 0
AreChecked p [] reports checks = checks ≡ []
AreChecked p (item ∷ items) reports checks = elim item.act [
  | Change e ↦ AreChecked (after p e) items reports checks
  | Solve ↦ AreHeads (IsCheck p) (AreChecked p items) reports checks
]

abbrev pub line_of : Checked → List ℕ
line_of check = verdict_text check.number check.outcome

-- all claims of all reports hold
abbrev pub all_hold : List Checked → Bool
all_hold [] = true
all_hold (check ∷ checks) = holds check.outcome && all_hold checks
