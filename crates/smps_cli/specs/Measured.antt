-- What `value` prints.
use Rattle.std.specs.Prelude.{◌≡◌, ◌⊎◌, ℕ, Bool, true, false, not, ◌||◌, List, [], ◌∷◌, Option, Some, None, Result, Ok, Err}
use Rattle.rationals.specs.Passes.{Operation}
use Rattle.scen_defs.specs.Program.{Program}
use Rattle.edit_defs.specs.Shifts.{HasWidths}
use Rattle.command_words.specs.declared.command.Budget.{Budget}
use Rattle.input_files.specs.Fetched.{Texts}
use Rattle.program_files.specs.Meant.{MeansProgram}
use Rattle.nested_method.specs.Stands.{HasFewNodes}
use Rattle.smps_session.specs.Comes.{IsOnTree}
use Rattle.value_measures.specs.Measured.{IsMeasured}
use Rattle.value_measures.specs.Numbers.{all_known}
use Rattle.value_measures.specs.Text.{measures_text}
use Rattle.value_measures.specs.declared.measured.Measures.{Measures}
use Rattle.value_measures.specs.declared.printed.PrintedReport.{PrintedReport}
use Rattle.value_measures.specs.declared.printed.ScenarioReport.{ScenarioReport}
use Rattle.exit_status.specs.declared.status.Status.{Status}
use Rattle.exit_status.specs.Findings.{is_open_finding, open_status}
use Rattle.smps_cli.specs.Ends.{MayEnd, RefusesTexts}
use Rattle.smps_cli.specs.Solved.{stated_of}
use Rattle.smps_cli.specs.Within.{states_none, without_solves}

-- The output is the text of what is measured of the program that the texts mean. Something is left open exactly where a number isn't there.
pub record PrintsMeasures (budget : Budget) (texts : Texts) (status : Status) (output : List ℕ) : Type 0 where
  -- the program has few nodes, is on a tree, and its rows with two finite ends have the widths of their ranges
  pub program : Program
  pub means : MeansProgram texts program
  pub few : HasFewNodes program
  pub tree : IsOnTree program
  pub widths : HasWidths program
  -- all reports, and the numbers that they come to
  pub measures : Measures
  pub measured : IsMeasured (record { solves = budget.solves; pivots = budget.pivots }) (stated_of budget) program measures
  pub text : output ≡ measures_text measures
  pub ends : status ≡ open_status (not (all_known measures.numbers))

-- ---- whether a report is open
abbrev pub is_open_report : PrintedReport → Bool
is_open_report printed = is_open_finding printed.report.finding

abbrev pub any_open_scenario : List ScenarioReport → Bool
any_open_scenario [] = false
any_open_scenario (r ∷ rs) = is_open_report r.printed || any_open_scenario rs

abbrev pub are_open_means : Result PrintedReport Operation → Bool
are_open_means (Ok printed) = is_open_report printed
are_open_means (Err o) = false

abbrev pub is_open_fixed : Option PrintedReport → Bool
is_open_fixed (Some printed) = is_open_report printed
is_open_fixed None = false

abbrev pub leaves_open : Measures → Bool
leaves_open m =
    is_open_report m.whole || (any_open_scenario m.scenarios.items || (are_open_means m.means || is_open_fixed m.fixed))

-- So within the budget of the words; or, where they state no number and no report is open, within the one of no solves.
pub record PrintsMeasuresWithin (budget : Budget) (texts : Texts) (status : Status) (output : List ℕ) : Type 0 where
  pub kept : Budget
  pub prints : PrintsMeasures kept texts status output
  pub may : (kept ≡ budget) ⊎ ((states_none budget ≡ true) × (kept ≡ without_solves budget) × (leaves_open prints.measures ≡ false))

-- What the texts of the files may come to: measures, or the first fault.
abbrev pub MayBeMeasured : Budget → Texts → Status → List ℕ → Type 0
MayBeMeasured budget texts = MayEnd (PrintsMeasuresWithin budget texts) (RefusesTexts texts)
