-- When a run must end with its whole output.
use Rattle.std.specs.Prelude.{◌≡◌, ◌≤◌, ◌⊎◌, ⊤, ℕ, true, List, length, Option, Some, None}
use Rattle.smps_words.specs.Line.{reading_of}
use Rattle.smps_io.specs.Files.{Files, bytes_of}
use Rattle.refusals.specs.declared.cause.Cause.{Cause}
use Rattle.refusals.specs.declared.cause.Cause.TheVariants.{BasisBad, FlatLimit, Passes, ReportBad, ScenarioLimit, TailName}
use Rattle.core_defs.specs.Fault.{IsCoreFile}
use Rattle.command_words.specs.declared.command.Budget.{Budget}
use Rattle.command_words.specs.declared.command.Page.{Page}
use Rattle.command_words.specs.declared.command.Plan.{Plan}
use Rattle.command_words.specs.declared.command.Task.{Task}
use Rattle.command_words.specs.declared.command.Task.TheVariants.{Solve, Check, Table, Show, Flat, Value, SolveRisk, CheckRisk, SolveBasis}
use Rattle.command_words.specs.Commands.{FileNames, command_of}
use Rattle.command_words.specs.Commands.Asked.{OnFiles, MakeThis}
use Rattle.input_files.specs.Fetched.{Texts, AreGiven, file_limit}
use Rattle.rationals.specs.Passes.{Operation}
use Rattle.input_files.specs.declared.kind.FileKind.TheVariants.{Basis, Core, Report, Measures}
use Rattle.scen_defs.specs.Program.{Program}
use Rattle.program_files.specs.Meant.{MeansProgram}
use Rattle.program_files.specs.Edited.{AreMeant}
use Rattle.smps_cli.specs.Makes.{workload, texts_of}
use Rattle.exit_status.specs.declared.status.Status.{Status}
use Rattle.exit_status.specs.declared.status.Status.TheVariants.{Done, SomeOpen, Refused, Memory}

-- a core file alone
abbrev pub alone : List ℕ → FileNames
alone name = record { core = name; time = None; stoch = None; edits = None; report = None; basis = None; measures = None }

-- The words ask for a core file that can be solved, and the shelf tells its bytes.
pub record AsksForReport (content : Option Files) (words : List (List ℕ)) : Type 0 where
  -- the words are `solve` and name this core file alone
  pub name : List ℕ
  pub budget : Budget
  pub command : command_of words ≡ Some (OnFiles (alone name) (Solve budget))
  -- the shelf tells what it holds, and that the file isn't too long
  pub files : Files
  pub told : content ≡ Some files
  pub within : length (bytes_of files name) ≤ file_limit
  -- no line is at fault and no section is missing
  pub read : IsCoreFile (reading_of 0 (bytes_of files name)).lines

-- the command ended with a report; or an operation passes in building, as that of an end of a row; or memory was wanting
abbrev pub EndsOrWantsMemory : Status → Type 0
EndsOrWantsMemory status =
    (status ≡ Done) ⊎ (status ≡ SomeOpen) ⊎ (status ≡ Memory) ⊎ ((p : Operation) × (status ≡ Refused Core 0 (Passes p)))

-- ---- all commands

-- The words ask for something of files that mean a program, and the shelf tells their bytes.
pub record AsksOfProgram (content : Option Files) (words : List (List ℕ)) : Type 0 where
  pub names : FileNames
  pub task : Task
  pub command : command_of words ≡ Some (OnFiles names task)
  -- the shelf tells what it holds: these bytes, of which none are too long
  pub files : Files
  pub told : content ≡ Some files
  pub texts : Texts
  pub given : AreGiven (Some files) names texts
  -- they mean a program, a script for it, and reports
  pub meant : AreMeant texts

-- a text of the workload is asked for; or else its texts mean a program
abbrev pub IsPageOrMeant : Option Page → Plan → Type 0
IsPageOrMeant (Some page) plan = ⊤
IsPageOrMeant None plan = (program : Program) × MeansProgram (texts_of (workload plan)) program

-- The words ask for a workload: for one of its texts, or for the summary of the program that these mean.
pub record AsksForWorkload (words : List (List ℕ)) : Type 0 where
  pub plan : Plan
  pub command : command_of words ≡ Some (MakeThis plan)
  pub meant : IsPageOrMeant plan.page plan

-- the command ended with its whole output, or memory was wanting
abbrev pub AnswersOrWantsMemory : Status → Type 0
AnswersOrWantsMemory status = (status ≡ Done) ⊎ (status ≡ SomeOpen) ⊎ (status ≡ Memory)

-- or the core file is refused as a whole: there is no program whose cost is the risk measure
abbrev pub HasNoRisk : Status → Type 0
HasNoRisk status =
    (status ≡ Refused Core 0 TailName) ⊎ (status ≡ Refused Core 0 ScenarioLimit)
    ⊎ ((p : Operation) × (status ≡ Refused Core 0 (Passes p)))

-- So does each task; but `table` refuses a report file that has no report of the number that is asked for, and, where the words name one, a
-- file that isn't what `value` printed; and `flat` the core file where the program of all nodes exceeds a limit of core files, or an
-- operation passes. With a risk measure `solve` and `check` refuse the core file where a name is taken, the program would be too large, or
-- an operation passes; and `check` a report file with other names. With a basis `solve` refuses a basis file that isn't one of the program.
abbrev pub EndsTask : Task → Status → Type 0
EndsTask (Solve budget) status = AnswersOrWantsMemory status
EndsTask Check status = AnswersOrWantsMemory status
EndsTask (Table sheet) status =
    AnswersOrWantsMemory status ⊎ ((line : ℕ) × (status ≡ Refused Report line ReportBad))
    ⊎ ((sheet.with_measures ≡ true) × ((line : ℕ) × (cause : Cause) × (status ≡ Refused Measures line cause)))
EndsTask Show status = AnswersOrWantsMemory status
EndsTask (Flat extent) status =
    AnswersOrWantsMemory status ⊎ (status ≡ Refused Core 0 FlatLimit) ⊎ ((p : Operation) × (status ≡ Refused Core 0 (Passes p)))
EndsTask (Value budget) status = AnswersOrWantsMemory status
EndsTask (SolveRisk m budget) status = AnswersOrWantsMemory status ⊎ HasNoRisk status
EndsTask (CheckRisk m) status =
    AnswersOrWantsMemory status ⊎ HasNoRisk status ⊎ ((line : ℕ) × (cause : Cause) × (status ≡ Refused Report line cause))
EndsTask (SolveBasis budget) status = AnswersOrWantsMemory status ⊎ ((line : ℕ) × (status ≡ Refused Basis line BasisBad))
