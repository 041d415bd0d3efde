-- Tables of words with codes.
use Rattle.std.specs.Prelude.{ℕ, Bool, true, List, [], ◌∷◌, ◌++◌, Option, Some, None, length, nat_eq, not, ◌&&◌}
use Rattle.std.specs.Prelude.{if◌then◌else◌}
use Rattle.std.specs.List.{list_any}
use Rattle.smps_words.specs.Line.{fields_of}
use Rattle.smps_words.specs.Names.{same_name}

-- a word of a table, with its code
pub record WordRow : Type 0 where
  pub word : List ℕ
  pub code : ℕ

-- each word with the code at its place
abbrev pub rows_of : List (List ℕ) → List ℕ → List WordRow
rows_of [] codes = []
rows_of (word ∷ words) [] = []
rows_of (word ∷ words) (code ∷ codes) = record { word = word; code = code } ∷ rows_of words codes

-- the code of the first row with the word
abbrev pub code_of : List WordRow → List ℕ → Option ℕ
code_of [] word = None
code_of (row ∷ rows) word = if same_name word row.word then Some row.code else code_of rows word

-- the words in one text, with a space between two
abbrev pub spaced : List (List ℕ) → List ℕ
spaced [] = []
spaced (word ∷ []) = word
spaced (word ∷ next ∷ words) = word ++ 32 ∷ spaced (next ∷ words)

-- no word stands twice
abbrev pub all_differ : List (List ℕ) → Bool
all_differ [] = true
all_differ (word ∷ words) = not (list_any (λ other. same_name other word) words) && all_differ words

-- The text is so many different words, with a single space between two.
abbrev pub is_table : ℕ → List ℕ → Bool
is_table count text = nat_eq (length (fields_of text)) count && (same_name (spaced (fields_of text)) text && all_differ (fields_of text))
