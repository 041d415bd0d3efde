-- What the texts of a task give: the program, and the script that its edit list means.
use Rattle.std.specs.Prelude.{◌≤◌, length}
use Rattle.scen_defs.specs.Program.{content}
use Rattle.edit_script.specs.Allowed.{AreAllowed}
use Rattle.input_files.specs.Fetched.{Texts}
use Rattle.program_files.specs.Meant.{MeansProgram}
use Rattle.program_files.specs.Edited.{MeansScript}
use Rattle.smps_cli.specs.declared.input.Input.{Input}

-- Each edit is allowed by the program after those before it.
pub record IsInput (texts : Texts) (input : Input) : Type 0 where
  pub means : MeansProgram texts (content input.program)
  pub script : MeansScript texts (content input.program) input.script.items.items
  pub allowed : AreAllowed (content input.program) input.script.items.items
  pub few : length input.script.items.items ≤ 10001
