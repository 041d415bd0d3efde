-- What `show` prints.
use Rattle.std.specs.Prelude.{◌≡◌, ℕ, List}
use Rattle.scen_defs.specs.Program.{Program}
use Rattle.edit_defs.specs.declared.edit.Item.{Item}
use Rattle.edit_script.specs.Allowed.{program_after}
use Rattle.input_files.specs.Fetched.{Texts}
use Rattle.program_files.specs.Meant.{MeansProgram}
use Rattle.program_files.specs.Edited.{MeansScript}
use Rattle.report_text.specs.Shown.{program_text}
use Rattle.exit_status.specs.declared.status.Status.{Status}
use Rattle.exit_status.specs.declared.status.Status.TheVariants.{Done}
use Rattle.smps_cli.specs.Ends.{MayEnd, RefusesTexts}

-- The output is the text of the program that the texts mean, as all edits of its edit list leave it.
pub record PrintsProgram (texts : Texts) (status : Status) (output : List ℕ) : Type 0 where
  pub program : Program
  pub means : MeansProgram texts program
  pub items : List Item
  pub script : MeansScript texts program items
  pub text : output ≡ program_text (program_after program items)
  pub done : status ≡ Done

-- What the texts of the files may come to.
abbrev pub MayBeShown : Texts → Status → List ℕ → Type 0
MayBeShown texts = MayEnd (PrintsProgram texts) (RefusesTexts texts)
