-- The command that words are.
use Rattle.std.specs.Prelude.{ℕ, Bool, true, false, not, List, [], ◌∷◌, Option, Some, None, Result, Ok, Err, is_some, is_none}
use Rattle.std.specs.Prelude.{if◌then◌else◌, ◌&&◌, ◌||◌, codes}
use Rattle.rationals.specs.Rational.{ℚ, zero_ℚ, one_ℚ, at_most}
use Rattle.frac128.specs.Numbers.{read_number}
use Rattle.frac128.specs.declared.text.NumFault.{NumFault}
use Rattle.command_words.specs.declared.flag.Flag.{Flag}
use Rattle.command_words.specs.declared.flag.Flag.TheVariants.{Core, Time, Stoch, Edits, Report, Whole, Number, Form}
use Rattle.command_words.specs.declared.flag.Flag.TheVariants.{Quiet, Start, Stages, Branches, Size, Text, Tail, Weight, Basis, Measures}
use Rattle.command_words.specs.declared.command.Verb.{Verb}
use Rattle.command_words.specs.declared.command.Verb.TheVariants.{Solve, Check, Table, Show, Flat, Value, Make}
use Rattle.command_words.specs.declared.command.Budget.{Budget}
use Rattle.command_words.specs.declared.command.RiskMeasure.{RiskMeasure}
use Rattle.command_words.specs.declared.command.Task.{Task}
use Rattle.command_words.specs.declared.command.Task.TheVariants as task
use Rattle.command_words.specs.declared.command.Sheet.{Sheet}
use Rattle.command_words.specs.declared.command.SheetForm.{SheetForm}
use Rattle.command_words.specs.declared.command.SheetForm.TheVariants as form
use Rattle.command_words.specs.declared.command.Extent.{Extent}
use Rattle.command_words.specs.declared.command.Extent.TheVariants as extent
use Rattle.command_words.specs.declared.command.Page.{Page}
use Rattle.command_words.specs.declared.command.Page.TheVariants as page
use Rattle.command_words.specs.declared.command.Plan.{Plan}
use Rattle.command_words.specs.Table.{excludes, further_flags, goes_with, needed_flags, value_kind}
use Rattle.command_words.specs.Words.{Given, Values, same_text, then_some, settings_of, value_with, are_once}
use Rattle.command_words.specs.Words.{has_flag, verb_named, number_for, number_given, is_set, budget_of}

-- ---- which options there are

-- a command takes those that it needs, and further ones
abbrev pub allows : Verb → Flag → Bool
allows verb flag = has_flag flag (needed_flags verb) || has_flag flag (further_flags verb)

abbrev pub all_allowed : Verb → List Given → Bool
all_allowed verb [] = true
all_allowed verb (s ∷ settings) = allows verb s.flag && all_allowed verb settings

-- these options are there
abbrev pub are_there : List Given → List Flag → Bool
are_there settings [] = true
are_there settings (flag ∷ flags) = is_some (value_with flag settings) && are_there settings flags

-- the option without which one isn't taken is there, where there is one
abbrev pub is_there_if : List Given → Option Flag → Bool
is_there_if settings None = true
is_there_if settings (Some flag) = is_some (value_with flag settings)

-- none of these options is there
abbrev pub are_absent : List Given → List Flag → Bool
are_absent settings [] = true
are_absent settings (flag ∷ flags) = is_none (value_with flag settings) && are_absent settings flags

abbrev pub goes_with_all : List Given → Flag → Bool
goes_with_all settings flag = is_there_if settings (goes_with flag) && are_absent settings (excludes flag)

-- so for each of some options
abbrev pub go_together : List Given → List Given → Bool
go_together settings [] = true
go_together settings (s ∷ others) = goes_with_all settings s.flag && go_together settings others

-- each is taken, and stands once; all are there that are needed, and those without which others aren't taken, and none beside which another
-- isn't taken
abbrev pub are_options : Verb → List Given → Bool
are_options verb settings =
    (all_allowed verb settings && are_once settings) && (are_there settings (needed_flags verb) && go_together settings settings)

-- ---- tasks on files

-- the names of the files that a command takes
pub record FileNames : Type 0 where
  pub core : List ℕ
  pub time : Option (List ℕ)
  pub stoch : Option (List ℕ)
  pub edits : Option (List ℕ)
  pub report : Option (List ℕ)
  pub basis : Option (List ℕ)
  pub measures : Option (List ℕ)

-- those that the options name, with a core file
abbrev pub file_names : List ℕ → Values → FileNames
file_names core value = record {
  core = core;
  time = value Time;
  stoch = value Stoch;
  edits = value Edits;
  report = value Report;
  basis = value Basis;
  measures = value Measures;
}

abbrev pub sources_of : Values → Option FileNames
sources_of value = then_some (value Core) (λ core. Some (file_names core value))

abbrev pub form_named : List ℕ → Option SheetForm
form_named word =
    if same_text word (codes "text") then Some form.Text
    else (if same_text word (codes "csv") then Some form.Csv
    else (if same_text word (codes "json") then Some form.Json
    else (if same_text word (codes "html") then Some form.Html else None)))

-- the form of a report; text where the words don't say which
abbrev pub form_by : Option (List ℕ) → Option SheetForm
form_by None = Some form.Text
form_by (Some word) = form_named word

abbrev pub form_of : Values → Option SheetForm
form_of value = form_by (value Form)

-- the number of a report, where the words have one
abbrev pub report_number_by : Option (List ℕ) → Option (Option ℕ)
report_number_by None = Some None
report_number_by (Some word) = then_some (number_for (value_kind Number) word) (λ number. Some (Some number))

abbrev pub report_number_of : Values → Option (Option ℕ)
report_number_of value = report_number_by (value Number)

abbrev pub sheet_of : Values → Option Sheet
sheet_of value =
    then_some (report_number_of value) (λ n. then_some (form_of value) (λ shape.
    Some (record { number = n; form = shape; with_measures = is_some (value Measures) })))

abbrev pub extent_named : List ℕ → Option Extent
extent_named word = if same_text word (codes "yes") then Some extent.Whole else None

-- how large one core file may be
abbrev pub extent_by : Option (List ℕ) → Option Extent
extent_by None = Some extent.Core
extent_by (Some word) = extent_named word

abbrev pub extent_of : Values → Option Extent
extent_of value = extent_by (value Whole)

-- the number that a word is, as in files
abbrev pub number_kept : Result ℚ NumFault → Option ℚ
number_kept (Ok number) = Some number
number_kept (Err fault) = None

abbrev pub number_read : List ℕ → Option ℚ
number_read word = number_kept (read_number word)

-- from 0 and below 1
abbrev pub kept_level : ℚ → Option ℚ
kept_level a = if at_most zero_ℚ a && not (at_most one_ℚ a) then Some a else None

abbrev pub level_of : List ℕ → Option ℚ
level_of word = then_some (number_read word) kept_level

-- from 0 to 1
abbrev pub kept_weight : ℚ → Option ℚ
kept_weight w = if at_most zero_ℚ w && at_most w one_ℚ then Some w else None

abbrev pub weight_of : List ℕ → Option ℚ
weight_of word = then_some (number_read word) kept_weight

abbrev pub measure_named : List ℕ → List ℕ → Option RiskMeasure
measure_named level weight =
    then_some (level_of level) (λ a. then_some (weight_of weight) (λ w. Some (record { level = a; weight = w })))

-- the risk measure, where the words have a level and a weight
abbrev pub measure_by : Option (List ℕ) → Option (List ℕ) → Option (Option RiskMeasure)
measure_by None None = Some None
measure_by (Some level) (Some weight) = then_some (measure_named level weight) (λ m. Some (Some m))
measure_by (Some level) None = None
measure_by None (Some weight) = None

abbrev pub measure_of : Values → Option (Option RiskMeasure)
measure_of value = measure_by (value Tail) (value Weight)

-- with a risk measure, with a basis, or with neither
abbrev pub solve_by : Option RiskMeasure → Bool → Budget → Task
solve_by None false budget = task.Solve budget
solve_by None true budget = task.SolveBasis budget
solve_by (Some m) with_basis budget = task.SolveRisk m budget

abbrev pub check_by : Option RiskMeasure → Task
check_by None = task.Check
check_by (Some m) = task.CheckRisk m

-- `make` is no task on files
abbrev pub task_of : Verb → Values → Option Task
task_of Solve value =
    then_some (measure_of value) (λ m. then_some (budget_of value) (λ budget. Some (solve_by m (is_some (value Basis)) budget)))
task_of Check value = then_some (measure_of value) (λ m. Some (check_by m))
task_of Table value = then_some (sheet_of value) (λ sheet. Some (task.Table sheet))
task_of Show value = Some task.Show
task_of Flat value = then_some (extent_of value) (λ size. Some (task.Flat size))
task_of Value value = then_some (budget_of value) (λ budget. Some (task.Value budget))
task_of Make value = None

-- ---- workloads

abbrev pub page_named : List ℕ → Option Page
page_named word =
    if same_text word (codes "core") then Some page.Core
    else (if same_text word (codes "time") then Some page.Time
    else (if same_text word (codes "stoch") then Some page.Stoch else None))

abbrev pub page_by : Option (List ℕ) → Option (Option Page)
page_by None = Some None
page_by (Some word) = then_some (page_named word) (λ found. Some (Some found))

-- the text that is asked for, if one is
abbrev pub page_of : Values → Option (Option Page)
page_of value = page_by (value Text)

-- four numbers, each within its range
abbrev pub plan_of : Values → Option Plan
plan_of value =
    then_some (number_given Start (value Start)) (λ s.
    then_some (number_given Stages (value Stages)) (λ t.
    then_some (number_given Branches (value Branches)) (λ b.
    then_some (number_given Size (value Size)) (λ k.
    then_some (page_of value) (λ found.
    then_some (is_set (value Quiet)) (λ q.
    Some (record { start = s; stages = t; branches = b; size = k; page = found })))))))

-- ---- commands

-- what the words ask for: a task on the program that files state, or a workload
pub data Asked : Type 0 where
  OnFiles : FileNames → Task → Asked
  MakeThis : Plan → Asked

abbrev pub on_files : Verb → Values → Option Asked
on_files verb value = then_some (sources_of value) (λ names. then_some (task_of verb value) (λ found. Some (OnFiles names found)))

-- what a verb asks for with these values of its options
abbrev pub asked_with : Verb → Values → Option Asked
asked_with Solve value = on_files Solve value
asked_with Check value = on_files Check value
asked_with Table value = on_files Table value
asked_with Show value = on_files Show value
asked_with Flat value = on_files Flat value
asked_with Value value = on_files Value value
asked_with Make value = then_some (plan_of value) (λ plan. Some (MakeThis plan))

abbrev pub command_with : Verb → List Given → Option Asked
command_with verb settings =
    if are_options verb settings then asked_with verb (λ flag. value_with flag settings) else None

-- the command of a verb with the words of its options
abbrev pub command_by : Verb → List (List ℕ) → Option Asked
command_by verb words = then_some (settings_of words) (command_with verb)

-- The command that the words are: the first is its name, and options follow in any order, each at most once.
abbrev pub command_of : List (List ℕ) → Option Asked
command_of [] = None
command_of (word ∷ words) = then_some (verb_named word) (λ verb. command_by verb words)
