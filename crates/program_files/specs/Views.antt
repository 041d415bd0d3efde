-- What reading the texts gives.
use Rattle.std.specs.Prelude.{⊤, ℕ, List, Option, Some, None, Result, Ok, Err, Vec}
use Rattle.std.specs.declared.alloc.Global.{Global}
use Rattle.input_files.specs.declared.kind.FileKind.{FileKind}
use Rattle.refusals.specs.declared.cause.Cause.TheVariants.{ScenarioLimit, Passes}
use Rattle.refusals.specs.declared.cause.ReadFail.{ReadFail}
use Rattle.refusals.specs.declared.cause.ReadFail.TheVariants as fail
use Rattle.smps_build.specs.declared.fault.BuildFault.{BuildFault}
use Rattle.smps_build.specs.declared.fault.BuildFault.TheVariants as build_fault
use Rattle.core_defs.specs.declared.program.Core.{Core}
use Rattle.time_defs.specs.declared.periods.Periods.{Periods}
use Rattle.time_defs.specs.Means.{Stages}
use Rattle.time_defs.specs.Laws.{IsTimeReading}
use Rattle.time_defs.specs.Periods.{stages}
use Rattle.stoch_defs.specs.declared.stoch.Stoch.{Stoch}
use Rattle.stoch_defs.specs.Random.{stoch_content}
use Rattle.stoch_defs.specs.File.{IsStochReading}
use Rattle.scen_defs.specs.declared.program.Program.{Program}
use Rattle.scen_defs.specs.Program.{Program as ProgramView, content}
use Rattle.scen_defs.specs.declared.report.Report.{Report}
use Rattle.edit_defs.specs.declared.edit.Script.{Script}
use Rattle.input_files.specs.Fetched.{Texts}
use Rattle.program_files.specs.declared.reading.Unread.{Unread}
use Rattle.program_files.specs.declared.reading.Unread.TheVariants.{Refused, Memory}
use Rattle.program_files.specs.Meant.{MeansPeriods, MeansRandom, MeansProgram}
use Rattle.program_files.specs.Refused.{RefusesProgram}
use Rattle.program_files.specs.Edited.{MeansScript, MeansReports, RefusesEdits, RefusesReports}

-- the periods that the time file means, or its first fault, or memory was wanting
abbrev pub GivesPeriods : Core → Option (List ℕ) → Result Periods ReadFail → Type 0
GivesPeriods core text (Ok periods) = MeansPeriods core text (stages periods)
GivesPeriods core text (Err fail.Memory) = ⊤
GivesPeriods core None (Err (fail.Refused refusal)) = ⊥
GivesPeriods core (Some text) (Err (fail.Refused refusal)) = IsTimeReading core text (Err refusal)

-- the cases of the stoch file, or its first fault, or memory was wanting
abbrev pub GivesRandom : Core → Stages → Option (List ℕ) → Result Stoch ReadFail → Type 0
GivesRandom core p text (Ok stoch) = MeansRandom core p text (stoch_content stoch)
GivesRandom core p text (Err fail.Memory) = ⊤
GivesRandom core p None (Err (fail.Refused refusal)) = ⊥
GivesRandom core p (Some text) (Err (fail.Refused refusal)) = IsStochReading core p text (Err refusal)

-- what stops the reading of a file
abbrev pub unread_of : FileKind → ReadFail → Option Core → Unread
unread_of file (fail.Refused refusal) known = Refused file refusal known
unread_of file fail.Memory known = Memory

-- what stops the building of a program: it is told at line 0
abbrev pub unbuilt_of : FileKind → BuildFault → Core → Unread
unbuilt_of file build_fault.Limit core = Refused file (record { line = 0; cause = ScenarioLimit }) (Some core)
unbuilt_of file (build_fault.Passed p) core = Refused file (record { line = 0; cause = Passes p }) (Some core)
unbuilt_of file build_fault.Memory core = Memory

-- the program that the texts mean, or their first fault, or memory was wanting
abbrev pub MeansOrRefused : Texts → Result Program Unread → Type 0
MeansOrRefused texts (Ok program) = MeansProgram texts (content program)
MeansOrRefused texts (Err (Refused file refusal core)) = RefusesProgram texts file refusal core
MeansOrRefused texts (Err Memory) = ⊤

-- the script that the edit list means, or its first fault, or memory was wanting
abbrev pub GivesScript : Texts → ProgramView → Result Script Unread → Type 0
GivesScript texts p (Ok script) = MeansScript texts p script.items.items
GivesScript texts p (Err (Refused file refusal known)) = RefusesEdits texts file refusal known
GivesScript texts p (Err Memory) = ⊤

-- the reports that the report file states, so many at most, or its first fault, or memory was wanting
abbrev pub GivesReports : Texts → ℕ → Program → Result (Vec Report Global) Unread → Type 0
GivesReports texts most program (Ok reports) = MeansReports texts most program reports.items
GivesReports texts most program (Err (Refused file refusal known)) = RefusesReports texts file refusal known
GivesReports texts most program (Err Memory) = ⊤
