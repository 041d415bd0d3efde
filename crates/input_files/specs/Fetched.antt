-- The texts of the files that the words name.
use Rattle.std.specs.Prelude.{◌≡◌, ◌<◌, ◌≤◌, ⊤, ℕ, List, [], ◌∷◌, ◌++◌, length, Option, Some, None, IfSome}
use Rattle.std.specs.Option.{option_to_list}
use Rattle.smps_io.specs.Files.{Files, bytes_of}
use Rattle.command_words.specs.Commands.{FileNames}
use Rattle.input_files.specs.declared.kind.FileKind.{FileKind}
use Rattle.input_files.specs.declared.kind.FileKind.TheVariants.{Core, Time, Stoch, Edits, Report, Basis, Measures}

-- a file has at most so many bytes
abbrev pub file_limit : ℕ
file_limit = 8388608

-- the bytes of the files that a command takes
pub record Texts : Type 0 where
  pub core : List ℕ
  pub time : Option (List ℕ)
  pub stoch : Option (List ℕ)
  pub edits : Option (List ℕ)
  pub report : Option (List ℕ)
  pub basis : Option (List ℕ)
  pub measures : Option (List ℕ)

-- These are the bytes of that name, as far as the shelf tells what it holds, and they aren't too long.
pub record IsGiven (content : Option Files) (name bytes : List ℕ) : Type 0 where
  pub told : IfSome content (λ files. bytes ≡ bytes_of files name)
  pub within : length bytes ≤ file_limit

-- the same of a file that need not be named
abbrev pub IsGivenIf : Option Files → Option (List ℕ) → Option (List ℕ) → Type 0
IsGivenIf content None None = ⊤
IsGivenIf content None (Some bytes) = ⊥
IsGivenIf content (Some name) None = ⊥
IsGivenIf content (Some name) (Some bytes) = IsGiven content name bytes

-- Each file that is named was given.
pub record AreGiven (content : Option Files) (names : FileNames) (texts : Texts) : Type 0 where
  pub core : IsGiven content names.core texts.core
  pub time : IsGivenIf content names.time texts.time
  pub stoch : IsGivenIf content names.stoch texts.stoch
  pub edits : IsGivenIf content names.edits texts.edits
  pub report : IsGivenIf content names.report texts.report
  pub basis : IsGivenIf content names.basis texts.basis
  pub measures : IsGivenIf content names.measures texts.measures

-- the name of the file of a kind
abbrev pub name_of : FileNames → FileKind → Option (List ℕ)
name_of names Core = Some names.core
name_of names Time = names.time
name_of names Stoch = names.stoch
name_of names Edits = names.edits
name_of names Report = names.report
name_of names Basis = names.basis
name_of names Measures = names.measures

-- The file of this kind is one of those that are named.
abbrev pub IsNamed : FileNames → FileKind → Type 0
IsNamed names kind = (name : List ℕ) × (name_of names kind ≡ Some name)

-- It is, and is too long, as far as the shelf tells.
abbrev pub IsLong : Option Files → FileNames → FileKind → Type 0
IsLong content names kind =
    (name : List ℕ) × (name_of names kind ≡ Some name) × IfSome content (λ files. file_limit < length (bytes_of files name))

-- the names of the files that are named, in the order core, time, stoch, edits, report, basis, measures
abbrev pub names_in_order : FileNames → List (List ℕ)
names_in_order names = names.core ∷ option_to_list names.time ++ option_to_list names.stoch ++ option_to_list names.edits
    ++ option_to_list names.report ++ option_to_list names.basis ++ option_to_list names.measures

-- the names of the files that are named and come before that of a kind in this order
abbrev pub names_before : FileNames → FileKind → List (List ℕ)
names_before names Core = []
names_before names Time = names.core ∷ []
names_before names Stoch = names.core ∷ option_to_list names.time
names_before names Edits = names.core ∷ option_to_list names.time ++ option_to_list names.stoch
names_before names Report = names.core ∷ option_to_list names.time ++ option_to_list names.stoch ++ option_to_list names.edits
names_before names Basis = names.core ∷ option_to_list names.time ++ option_to_list names.stoch ++ option_to_list names.edits
    ++ option_to_list names.report
names_before names Measures = names.core ∷ option_to_list names.time ++ option_to_list names.stoch ++ option_to_list names.edits
    ++ option_to_list names.report ++ option_to_list names.basis

-- The file of this kind is named, and behind the fetches before, those up to and with it were fetched in this order, each once.
abbrev pub StopsAt : FileNames → FileKind → List (List ℕ) → List (List ℕ) → Type 0
StopsAt names kind before now =
    (name : List ℕ) × (name_of names kind ≡ Some name) × (now ≡ before ++ (names_before names kind ++ name ∷ []))
