-- Which report of a file is asked for, and what its test comes to.
use Rattle.std.specs.Prelude.{◌≡◌, ◌<◌, ◌+◌, ◌⊎◌, ⊤, ℕ, zero, suc, Bool, true, false, List, [], ◌∷◌, length, slice_get, Option, Some, None}
use Rattle.scen_defs.specs.Program.{Program}
use Rattle.scen_defs.specs.declared.report.Report.{Report}
use Rattle.edit_defs.specs.After.{after}
use Rattle.edit_defs.specs.declared.edit.Act.TheVariants.{Change, Solve}
use Rattle.edit_defs.specs.declared.edit.Item.{Item}
use Rattle.script_checks.specs.declared.single.Checked.{Checked}
use Rattle.script_checks.specs.Checked.{IsCheck, holds}
use Rattle.report_sheets.specs.declared.sheet.NoSheet.{NoSheet}
use Rattle.report_sheets.specs.declared.sheet.NoSheet.TheVariants.{Missing, Unproved, Memory}

-- Of so many reports the one at this place, counted from 0, is asked for: the one with the number, counted from 1, or the last.
abbrev pub IsAsked : Option ℕ → ℕ → ℕ → Type 0
IsAsked None count place = place + 1 ≡ count
IsAsked (Some number) count place = (place + 1 ≡ number) × (place < count)

-- of so many reports none is the one that is asked for
abbrev pub IsMissing : Option ℕ → ℕ → Type 0
IsMissing None count = count ≡ 0
IsMissing (Some number) count = (number ≡ 0) ⊎ (count < number)

abbrev pub unless_first : Program → (ℕ → Program) → ℕ → Program
unless_first p later zero = p
unless_first p later (suc n) = later n

-- the program after the edits before a SOLVE of a script, of which so many others come first
abbrev pub program_at : Program → List Item → ℕ → Program
program_at p [] n = p
program_at p (item ∷ items) n = elim item.act [
  | Change e ↦ program_at (after p e) items n
  | Solve ↦ unless_first p (program_at p items) n
]

-- The test of a report against a program, and whether all that it claims holds.
pub record IsTest (p : Program) (report : Report) (is_so : Bool) (check : Checked) : Type 0 where
  pub checked : IsCheck p report check
  pub comes : holds check.outcome ≡ is_so

-- The report that is asked for, and its test against the program as it is at its SOLVE.
pub record IsTested (p : Program) (items : List Item) (reports : List Report) (number : Option ℕ) (is_so : Bool)
    (check : Checked) : Type 0 where
  pub place : ℕ
  pub asked : IsAsked number (length reports) place
  pub report : Report
  pub there : slice_get reports place ≡ Some report
  pub test : IsTest (program_at p items place) report is_so check

-- all that the report claims of the program holds
abbrev pub HoldsFor : Program → Report → Type 0
HoldsFor p report = (check : Checked) × IsTest p report true check

-- the report that is asked for is there, and all that it claims holds
abbrev pub HoldsAsAsked : Program → List Item → List Report → Option ℕ → Type 0
HoldsAsAsked p items reports number = (check : Checked) × IsTested p items reports number true check

-- why a report isn't shown: its test doesn't come to that it holds, or memory was wanting
abbrev pub FailsTest : Program → Report → NoSheet → Type 0
FailsTest p report (Missing count) = ⊥
FailsTest p report (Unproved check) = IsTest p report false check
FailsTest p report Memory = ⊤

-- why none of a list is: there is no such report, or as above
abbrev pub TellsWhyNot : Program → List Item → List Report → Option ℕ → NoSheet → Type 0
TellsWhyNot p items reports number (Missing count) = (count ≡ length reports) × IsMissing number (length reports)
TellsWhyNot p items reports number (Unproved check) = IsTested p items reports number false check
TellsWhyNot p items reports number Memory = ⊤
