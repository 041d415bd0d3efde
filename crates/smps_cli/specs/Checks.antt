-- What `check` prints.
use Rattle.std.specs.Prelude.{◌≡◌, ℕ, not, List}
use Rattle.std.specs.List.{flat_map}
use Rattle.scen_defs.specs.Program.{content}
use Rattle.scen_defs.specs.declared.program.Program.{Program}
use Rattle.scen_defs.specs.declared.report.Report.{Report}
use Rattle.edit_defs.specs.declared.edit.Item.{Item}
use Rattle.input_files.specs.Fetched.{Texts}
use Rattle.program_files.specs.Meant.{MeansProgram}
use Rattle.program_files.specs.Edited.{MeansScript, MeansReports}
use Rattle.edit_script.specs.Solves.{solve_count}
use Rattle.script_checks.specs.declared.single.Checked.{Checked}
use Rattle.script_checks.specs.Checked.{AreChecked, line_of, all_hold}
use Rattle.exit_status.specs.declared.status.Status.{Status}
use Rattle.smps_cli.specs.Ends.{MayEnd, RefusesTexts}
use Rattle.exit_status.specs.Findings.{open_status}

-- The output is a line for each report that the file states: what its check against the program after the edits before its SOLVE comes
-- to. Where all hold, nothing is left open.
pub record PrintsChecks (texts : Texts) (status : Status) (output : List ℕ) : Type 0 where
  -- the program that the texts mean, and what the edit list means for it
  pub program : Program
  pub means : MeansProgram texts (content program)
  pub items : List Item
  pub script : MeansScript texts (content program) items
  -- the reports that are stated, at most as many as there are SOLVEs
  pub reports : List Report
  pub stated : MeansReports texts (solve_count items) program reports
  -- the checks, one for each report
  pub checks : List Checked
  pub checked : AreChecked (content program) items reports checks
  pub text : output ≡ flat_map line_of checks
  pub ends : status ≡ open_status (not (all_hold checks))

-- What the texts of the files may come to: checks, or the first fault.
abbrev pub MayBeChecked : Texts → Status → List ℕ → Type 0
MayBeChecked texts = MayEnd (PrintsChecks texts) (RefusesTexts texts)
