-- What a run of the top call is, by the words, what the shelf holds, and what the shelf and the sink count before and after.
use Rattle.std.specs.Prelude.{◌≡◌, ℕ, List, Option, None}
use Rattle.smps_io.specs.Faults.{Rose}
use Rattle.smps_io.specs.Fetches.{FetchesPrefix}
use Rattle.smps_io.specs.Files.{Files}
use Rattle.command_words.specs.Commands.{command_of}
use Rattle.input_files.specs.declared.kind.FileKind.{FileKind}
use Rattle.exit_status.specs.declared.status.Status.{Status}
use Rattle.exit_status.specs.declared.status.Status.TheVariants.{Words, ReadFault, WriteFault}
use Rattle.headline.specs.Headline.{Headline}
use Rattle.smps_cli.specs.Answers.{Answers}
use Rattle.smps_cli.specs.Completes.{AsksForReport, EndsOrWantsMemory, AsksOfProgram, EndsTask, AsksForWorkload, AnswersOrWantsMemory}
use Rattle.smps_cli.specs.Sources.{HasFetched, LastSaysLong, fetch_order}
use Rattle.smps_cli.specs.Truths.{RunTruths}

-- the fetches of a shelf, its faults, and what it gave last
pub record ShelfState : Type 0 where
  pub fetches : List (List ℕ)
  pub faults : ℕ
  pub given : ℕ

abbrev pub shelf_state : List (List ℕ) → ℕ → ℕ → ShelfState
shelf_state fetches faults given = record { fetches = fetches; faults = faults; given = given }

-- what was written to a sink, where it tells that, its faults, and how many bytes it has taken
pub record SinkState : Type 0 where
  pub written : Option (List ℕ)
  pub faults : ℕ
  pub taken : ℕ

abbrev pub sink_state : Option (List ℕ) → ℕ → ℕ → SinkState
sink_state written faults taken = record { written = written; faults = faults; taken = taken }

-- A run of the words `call` came to this status.
pub record IsRun (call : List (List ℕ)) (content : Option Files) (shelf shelf_after : ShelfState) (sink sink_after : SinkState)
    (status : Status) : Type 0 where
  -- what `solve` and `check` wrote, where they end with status 0 or 1, is so of the program that the files mean
  pub headline : Headline (command_of call) content sink.written sink_after.written sink.taken sink_after.taken status
  -- the lists of what `solve` wrote show it
  pub truths : RunTruths (command_of call) content sink.written sink_after.written sink.taken sink_after.taken status
  -- the words are refused only where they aren't those of a command, and then no file is fetched
  pub words : status ≡ Words → command_of call ≡ None
  pub none_fetched : command_of call ≡ None → shelf_after.fetches ≡ shelf.fetches
  -- which files were fetched, and whether the last gave more than a file may have
  pub fetched : HasFetched (command_of call) status shelf.fetches shelf_after.fetches
  pub once : FetchesPrefix shelf.fetches (fetch_order (command_of call)) shelf_after.fetches
  pub long : LastSaysLong (command_of call) status shelf_after.given
  -- faults are those of the shelf and of the sink
  pub read : (kind : FileKind) → status ≡ ReadFault kind → Rose shelf.faults shelf_after.faults
  pub write : status ≡ WriteFault → Rose sink.faults sink_after.faults
  -- where neither failed, what can be answered is, unless memory is wanting
  pub completes : AsksForReport content call → (Rose shelf.faults shelf_after.faults → ⊥) → (Rose sink.faults sink_after.faults → ⊥)
      → EndsOrWantsMemory status
  pub ends : (asks : AsksOfProgram content call) → (Rose shelf.faults shelf_after.faults → ⊥) → (Rose sink.faults sink_after.faults → ⊥)
      → EndsTask asks.task status
  pub makes : AsksForWorkload call → (Rose sink.faults sink_after.faults → ⊥) → AnswersOrWantsMemory status
  -- what was answered and written, and how the method came to it
  pub answers : Answers content call sink.written sink_after.written sink.taken sink_after.taken status
