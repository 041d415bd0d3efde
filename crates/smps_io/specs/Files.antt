-- What a shelf holds: files by name.
use Rattle.std.specs.Prelude.{ℕ, List, [], ◌∷◌, Option, Some, None, unwrap_or, if◌then◌else◌, nat_eq}
use Rattle.std.specs.Cmp.Lexicographic.{pointwise}

-- names, each with its bytes
abbrev pub Files : Type 0
Files = List (List ℕ × List ℕ)

-- the first file of that name
abbrev pub file_of : Files → List ℕ → Option (List ℕ)
file_of [] name = None
file_of (file ∷ files) name = if pointwise nat_eq file.0 name then Some file.1 else file_of files name

-- its bytes, or none
abbrev pub bytes_of : Files → List ℕ → List ℕ
bytes_of files name = unwrap_or (file_of files name) []
