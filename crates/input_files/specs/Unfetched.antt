-- Why a file wasn't fetched.
use Rattle.std.specs.Prelude.{◌≡◌, ◌<◌, ◌≤◌, ⊤, ℕ, List, length, Option, Some, None, IfSome, Vec}
use Rattle.std.specs.declared.alloc.Global.{Global}
use Rattle.std.specs.Option.{option_map}
use Rattle.smps_io.specs.Files.{Files, bytes_of}
use Rattle.command_words.specs.Commands.{FileNames}
use Rattle.input_files.specs.declared.kind.FileKind.{FileKind}
use Rattle.input_files.specs.declared.fetch.Texts.{Texts as TextsOf}
use Rattle.input_files.specs.declared.fetch.Unfetched.{Unfetched}
use Rattle.input_files.specs.declared.fetch.Unfetched.TheVariants.{Failed, TooLong, Memory}
use Rattle.input_files.specs.Fetched.{Texts, IsNamed, IsLong, StopsAt, file_limit}

-- the bytes of a text that need not be there
abbrev pub given_bytes : Option (Vec ℕ Global) → Option (List ℕ)
given_bytes = option_map (λ (bytes : Vec ℕ Global). bytes.items)

-- the texts of the code, as their bytes
abbrev pub texts_view : TextsOf → Texts
texts_view t = record {
  core = t.core.items;
  time = given_bytes t.time;
  stoch = given_bytes t.stoch;
  edits = given_bytes t.edits;
  report = given_bytes t.report;
  basis = given_bytes t.basis;
  measures = given_bytes t.measures;
}

-- what the fault of one file says of it
abbrev pub IsCauseOf : Option Files → List ℕ → FileKind → Unfetched → Type 0
IsCauseOf content name kind (Failed of) = of ≡ kind
IsCauseOf content name kind (TooLong of) = (of ≡ kind) × IfSome content (λ files. file_limit < length (bytes_of files name))
IsCauseOf content name kind Memory = ⊤

-- the same of a file that need not be named
abbrev pub IsCauseIf : Option Files → Option (List ℕ) → FileKind → Unfetched → Type 0
IsCauseIf content None kind fault = ⊥
IsCauseIf content (Some name) kind fault = IsCauseOf content name kind fault

-- what a fault says of the files that are named
abbrev pub IsCause : Option Files → FileNames → Unfetched → Type 0
IsCause content names (Failed kind) = IsNamed names kind
IsCause content names (TooLong kind) = IsLong content names kind
IsCause content names Memory = ⊤

-- where a file failed or is too long, it is the last that was fetched, and all before it were
abbrev pub StopsBy : FileNames → Unfetched → List (List ℕ) → List (List ℕ) → Type 0
StopsBy names (Failed kind) before now = StopsAt names kind before now
StopsBy names (TooLong kind) before now = StopsAt names kind before now
StopsBy names Memory before now = ⊤

-- So many bytes are more than a file may have exactly where the fault says so.
abbrev pub SaysLong : Unfetched → ℕ → Type 0
SaysLong (Failed kind) given = given ≤ file_limit
SaysLong (TooLong kind) given = file_limit < given
SaysLong Memory given = given ≤ file_limit
