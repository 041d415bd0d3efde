-- What the test of a report says of the one that is asked for.
use Rattle.std.proofs.Common.{◌≡◌, ◌<◌, ℕ, Bool, true, false, List, length, Option, Some, None, refl, subst, arith}
use Rattle.std.proofs.Math.ListN.{get_or}
use Rattle.std.proofs.lemmas.Option.{slice_get_read}
use Rattle.scen_defs.specs.Program.{Program}
use Rattle.scen_defs.specs.declared.report.Report.{Report}
use Rattle.edit_defs.specs.declared.edit.Item.{Item}
use Rattle.script_checks.specs.declared.single.Checked.{Checked}
use Rattle.report_sheets.specs.declared.sheet.NoSheet.{NoSheet}
use Rattle.report_sheets.specs.declared.sheet.NoSheet.TheVariants.{Missing, Unproved, Memory}
use Rattle.report_sheets.specs.Sheets.{IsAsked, program_at, IsTest, IsTested, HoldsFor, HoldsAsAsked, FailsTest, TellsWhyNot}

within : (number : Option ℕ) (count place : ℕ) → IsAsked number count place → place < count
within None count place h = omega (arith, h)
within (Some number) count place h = h.1

module _ (p now : Program) (items : List Item) (reports : List Report) (number : Option ℕ) (place : ℕ) (report : Report)
    (asked : IsAsked number (length reports) place) (is : report ≡ get_or reports place report) (is_at : now ≡ program_at p items place) where
  tested : (is_so : Bool) (check : Checked) → IsTest now report is_so check → IsTested p items reports number is_so check
  tested is_so check h = record {
    place = place;
    asked = asked;
    report = report;
    there = slice_get_read reports (length reports) place report refl (within number (length reports) place asked) is;
    test = subst (λ (q : Program). IsTest q report is_so check) is_at h;
  }

  pub shows : HoldsFor now report → HoldsAsAsked p items reports number
  shows h = (h.0, tested true h.0 h.1)

  pub tells : (why : NoSheet) → FailsTest now report why → TellsWhyNot p items reports number why
  tells (Missing count) h = absurd h
  tells (Unproved check) h = tested false check h
  tells Memory h = tt
