-- Which files a command fetches, and how far it came.
use Rattle.std.specs.Prelude.{◌≡◌, ◌<◌, ◌≤◌, ⊤, ℕ, List, [], ◌++◌, Option, Some, None}
use Rattle.smps_io.specs.Fetches.{FetchesPrefix}
use Rattle.command_words.specs.Commands.{Asked}
use Rattle.command_words.specs.Commands.Asked.{OnFiles, MakeThis}
use Rattle.input_files.specs.declared.kind.FileKind.{FileKind}
use Rattle.input_files.specs.Fetched.{StopsAt, names_in_order, file_limit}
use Rattle.exit_status.specs.declared.status.Status.{Status}
use Rattle.exit_status.specs.declared.status.Status.TheVariants.{Done, SomeOpen, Words, Refused, TooLong, ReadFault, WriteFault, Memory}

-- the names of the files of a command, in the order in which they are fetched; `make` has none, and nor have words that are no command
abbrev pub fetch_order : Option Asked → List (List ℕ)
fetch_order None = []
fetch_order (Some (OnFiles names task)) = names_in_order names
fetch_order (Some (MakeThis plan)) = []

-- The words are a task on files, of which those up to and with that of this kind were fetched, in their order, each once.
abbrev pub StopsAtFile : Option Asked → FileKind → List (List ℕ) → List (List ℕ) → Type 0
StopsAtFile None kind before now = ⊥
StopsAtFile (Some (OnFiles names task)) kind before now = StopsAt names kind before now
StopsAtFile (Some (MakeThis plan)) kind before now = ⊥

-- What was fetched where a run comes to this status: all files of the command; or those up to and with the one that couldn't be read or is
-- too long; or some first ones.
abbrev pub HasFetched : Option Asked → Status → List (List ℕ) → List (List ℕ) → Type 0
HasFetched asked Done before now = now ≡ before ++ fetch_order asked
HasFetched asked SomeOpen before now = now ≡ before ++ fetch_order asked
HasFetched asked Words before now = now ≡ before
HasFetched asked (Refused file line cause) before now = now ≡ before ++ fetch_order asked
HasFetched asked (TooLong file) before now = StopsAtFile asked file before now
HasFetched asked (ReadFault file) before now = StopsAtFile asked file before now
HasFetched asked WriteFault before now = FetchesPrefix before (fetch_order asked) now
HasFetched asked Memory before now = FetchesPrefix before (fetch_order asked) now

-- The last fetch of a run that comes to this status gave so many bytes: more than a file may have exactly where the status says so. Of want
-- of memory, and of an output that failed, nothing is said.
abbrev pub StatusSaysLong : Status → ℕ → Type 0
StatusSaysLong Done given = given ≤ file_limit
StatusSaysLong SomeOpen given = given ≤ file_limit
StatusSaysLong Words given = ⊤
StatusSaysLong (Refused file line cause) given = given ≤ file_limit
StatusSaysLong (TooLong file) given = file_limit < given
StatusSaysLong (ReadFault file) given = given ≤ file_limit
StatusSaysLong WriteFault given = ⊤
StatusSaysLong Memory given = ⊤

-- the same of a task on files; other words fetch none
abbrev pub LastSaysLong : Option Asked → Status → ℕ → Type 0
LastSaysLong None status given = ⊤
LastSaysLong (Some (OnFiles names task)) status given = StatusSaysLong status given
LastSaysLong (Some (MakeThis plan)) status given = ⊤
