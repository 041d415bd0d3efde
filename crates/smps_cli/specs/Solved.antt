-- What `solve` prints.
use Rattle.std.specs.Prelude.{◌≡◌, ℕ, ◌≤◌, Bool, false, ◌||◌, List, [], ◌∷◌, length}
use Rattle.std.specs.List.{flat_map}
use Rattle.scen_defs.specs.Program.{Program}
use Rattle.edit_defs.specs.declared.edit.Item.{Item}
use Rattle.edit_defs.specs.Shifts.{HasWidths}
use Rattle.command_words.specs.declared.command.Budget.{Budget}
use Rattle.input_files.specs.Fetched.{Texts}
use Rattle.program_files.specs.Meant.{MeansProgram}
use Rattle.program_files.specs.Edited.{MeansScript}
use Rattle.nested_method.specs.Stands.{HasFewNodes}
use Rattle.smps_session.specs.declared.told.Told.{Told}
use Rattle.smps_session.specs.declared.whole.StatedLimits.{StatedLimits}
use Rattle.smps_session.specs.Told.{IsScripted}
use Rattle.smps_session.specs.Comes.{IsOnTree}
use Rattle.exit_status.specs.declared.status.Status.{Status}
use Rattle.smps_cli.specs.Ends.{MayEnd, RefusesTexts}
use Rattle.exit_status.specs.Findings.{is_open_finding, open_status}

-- which numbers of a budget the words state
abbrev pub stated_of : Budget → StatedLimits
stated_of budget = record { solves = budget.solves_stated; pivots = budget.pivots_stated }

abbrev pub told_text : Told → List ℕ
told_text told = told.text.items

-- a report is open
abbrev pub any_open : List Told → Bool
any_open [] = false
any_open (told ∷ tolds) = is_open_finding told.finding || any_open tolds

-- The output is the texts of reports, one for each SOLVE of the edit list, each of them true of the program after the edits before its
-- SOLVE. Their findings give the status.
pub record PrintsReports (budget : Budget) (texts : Texts) (status : Status) (output : List ℕ) : Type 0 where
  -- the program that the texts mean, which has few nodes, is on a tree, and whose rows with two finite ends have the widths of their ranges
  pub program : Program
  pub means : MeansProgram texts program
  pub few : HasFewNodes program
  pub tree : IsOnTree program
  pub widths : HasWidths program
  -- what the edit list means for it: few items
  pub items : List Item
  pub script : MeansScript texts program items
  pub short : length items ≤ 10001
  -- the reports, all of them
  pub tolds : List Told
  pub told : IsScripted (record { solves = budget.solves; pivots = budget.pivots }) (stated_of budget) program items tolds
  pub text : output ≡ flat_map told_text tolds
  pub ends : status ≡ open_status (any_open tolds)

-- What the texts of the files may come to: reports, or the first fault.
abbrev pub MayBeSolved : Budget → Texts → Status → List ℕ → Type 0
MayBeSolved budget texts = MayEnd (PrintsReports budget texts) (RefusesTexts texts)
