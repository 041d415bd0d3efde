-- What shelves in memory hold, and when they fail.
use Rattle.std.specs.Prelude.{◌≡◌, ◌⊎◌, ℕ, List, None, Contains, map, string_bytes, String, Vec}
use Rattle.std.specs.declared.alloc.Global.{Global}
use Rattle.smps_io.specs.Files.{Files, file_of}

-- the files of a list of names and bytes
abbrev pub files_of : List (String Global × Vec ℕ Global) → Files
files_of entries = map (λ e. (string_bytes e.0, e.1.items)) entries

-- the call is one of those that fail, or the name isn't there
abbrev pub Fails : Files → List ℕ → ℕ → List ℕ → Type 0
Fails files fails call name = Contains fails call ⊎ (file_of files name ≡ None)
