-- With which number the program ends.
use Rattle.std.specs.Prelude.{◌≡◌, ◌≢◌, ℕ, List, [], map, drop, Option, Result, Ok, Err, String, string_bytes}
use Rattle.std.specs.declared.alloc.Global.{Global}
use Rattle.std.specs.declared.io.Error.{Error}
use Rattle.std.specs.declared.io.ErrorKind.TheVariants.{OutOfMemory}
use Rattle.std.specs.declared.vec.IntoIter.{IntoIter}
use Rattle.std.specs.IoError.{error_kind}
use Rattle.std.specs.Vec.Iter.{into_iter_items}
use Rattle.smps_io.specs.Files.{Files}
use Rattle.exit_status.specs.declared.status.Status.{Status}
use Rattle.exit_status.specs.declared.status.Status.TheVariants.{Memory}
use Rattle.exit_status.specs.Lines.{status_number}
use Rattle.smps_cli.specs.Runs.{IsRun, ShelfState, SinkState}

-- the number is that of a status to which a run of these words came
abbrev pub EndsWith : List (List ℕ) → Option Files → ShelfState → ShelfState → SinkState → SinkState → ℕ → Type 0
EndsWith words content shelf shelf_after sink sink_after number =
    (status : Status) × (number ≡ status_number status) × IsRun words content shelf shelf_after sink sink_after status

-- the number is that of want of memory, and nothing was fetched or written
abbrev pub EndsUnread : ShelfState → ShelfState → SinkState → SinkState → ℕ → Type 0
EndsUnread shelf shelf_after sink sink_after number = (number ≡ status_number Memory) × (shelf_after ≡ shelf) × (sink_after ≡ sink)

-- What the program makes of the words that the system gave, the program's own name first: a run of those behind the name, all and in their
-- order. Where it gave none since memory was wanting, the program ends with that number, and where it gave none since one isn't UTF-8, with
-- that of a run of no words.
abbrev pub EndsFor : Result (IntoIter (String Global) Global) Error → Option Files → ShelfState → ShelfState → SinkState → SinkState → ℕ
    → Type 0
EndsFor (Ok words) content shelf shelf_after sink sink_after number =
    EndsWith (map string_bytes (drop 1 (into_iter_items words))) content shelf shelf_after sink sink_after number
EndsFor (Err error) content shelf shelf_after sink sink_after number =
    (error_kind error ≡ OutOfMemory → EndsUnread shelf shelf_after sink sink_after number)
    × (error_kind error ≢ OutOfMemory → EndsWith [] content shelf shelf_after sink sink_after number)
