-- The data lines of a stoch file in groups: a line that begins a case or a scenario, with the lines behind it that set entries.
use Rattle.std.specs.Prelude.{ℕ, Bool, true, false, List, [], ◌∷◌, ◌++◌, Option, Some, None, unwrap_or, filter, nat_eq, length}
use Rattle.std.specs.Prelude.{flat_map}
use Rattle.std.specs.Prelude.{codes, ◌&&◌, if◌then◌else◌}
use Rattle.smps_words.specs.Line.{TextLine}
use Rattle.smps_words.specs.Names.{same_name}
use Rattle.reader_defs.specs.Placed.{Placed, placed_from}
use Rattle.stoch_defs.specs.declared.section.StochSection.{StochSection}
use Rattle.stoch_defs.specs.declared.section.StochSection.TheVariants as sections
use Rattle.stoch_defs.specs.declared.section.Mode.{Mode}
use Rattle.stoch_defs.specs.declared.section.Mode.TheVariants as modes
use Rattle.stoch_defs.specs.Section.{Place, first_place, section_of, is_end, mode_of, entered}

-- ---- the data lines with their places

-- the mode behind a header
abbrev pub mode_behind : StochSection → List (List ℕ) → Mode
mode_behind sections.Indep fields = unwrap_or (mode_of fields) modes.Replace
mode_behind sections.Blocks fields = unwrap_or (mode_of fields) modes.Replace
mode_behind sections.Scenarios fields = unwrap_or (mode_of fields) modes.Replace
mode_behind sections.Start fields = modes.Replace
mode_behind sections.Stoch fields = modes.Replace
mode_behind sections.End fields = modes.Replace

-- the place behind a header; nothing comes behind ENDATA
abbrev pub entered_if : Place → List (List ℕ) → Option StochSection → Place
entered_if at fields None = at
entered_if at fields (Some section) = entered at (mode_behind section fields) section

abbrev pub behind : Place → List (List ℕ) → Place
behind at [] = at
behind at (word ∷ rest) = if is_end at.section then at else entered_if at (word ∷ rest) (section_of word)

abbrev pub data_in : List TextLine → List (Placed Place)
data_in lines = placed_from behind first_place lines

-- those of INDEP and BLOCKS, and those of SCENARIOS
abbrev pub is_for_cases : StochSection → Bool
is_for_cases sections.Indep = true
is_for_cases sections.Blocks = true
is_for_cases sections.Scenarios = false
is_for_cases sections.Start = false
is_for_cases sections.Stoch = false
is_for_cases sections.End = false

abbrev pub is_for_scenarios : StochSection → Bool
is_for_scenarios sections.Scenarios = true
is_for_scenarios sections.Indep = false
is_for_scenarios sections.Blocks = false
is_for_scenarios sections.Start = false
is_for_scenarios sections.Stoch = false
is_for_scenarios sections.End = false

-- ---- groups

abbrev pub starts_with : List ℕ → List (List ℕ) → Bool
starts_with word [] = false
starts_with word (first ∷ _) = same_name first word

-- each line of INDEP is a case; BL and SC begin one
abbrev pub begins : StochSection → List (List ℕ) → Bool
begins sections.Indep fields = true
begins sections.Blocks fields = nat_eq (length fields) 4
begins sections.Scenarios fields = nat_eq (length fields) 5 && starts_with (codes "SC") fields
begins sections.Start fields = false
begins sections.Stoch fields = false
begins sections.End fields = false

pub record Group : Type 0 where
  pub head : Placed Place
  pub tail : List (Placed Place)

-- a further line of the last group
abbrev pub to_last : List Group → Placed Place → List Group
to_last [] line = []
to_last (g ∷ []) line = record g { tail = g.tail ++ line ∷ [] } ∷ []
to_last (g ∷ other ∷ groups) line = g ∷ to_last (other ∷ groups) line

abbrev pub with_line : List Group → Placed Place → List Group
with_line groups line =
    if begins line.at.section line.fields then groups ++ record { head = line; tail = [] } ∷ [] else to_last groups line

abbrev pub grouped : List Group → List (Placed Place) → List Group
grouped groups [] = groups
grouped groups (line ∷ lines) = grouped (with_line groups line) lines

-- the cases, and the scenarios, in the order of their lines
abbrev pub cases_in : List TextLine → List Group
cases_in lines = grouped [] (filter (λ (line : Placed Place). is_for_cases line.at.section) (data_in lines))

abbrev pub scenarios_in : List TextLine → List Group
scenarios_in lines = grouped [] (filter (λ (line : Placed Place). is_for_scenarios line.at.section) (data_in lines))

-- ---- field pairs

-- a column and a row with the field that is the stated value, and the mode of its section
pub record Pair : Type 0 where
  pub mode : Mode
  pub column : List ℕ
  pub row : List ℕ
  pub word : List ℕ

abbrev pub pair_of : Mode → List ℕ → List ℕ → List ℕ → Pair
pair_of mode column row word = record { mode = mode; column = column; row = row; word = word }

abbrev pub pairs_behind : Mode → List ℕ → List (List ℕ) → List Pair
pairs_behind mode column [] = []
pairs_behind mode column (_ ∷ []) = []
pairs_behind mode column (row ∷ word ∷ rest) = pair_of mode column row word ∷ pairs_behind mode column rest

abbrev pub pairs_among : Mode → List (List ℕ) → List Pair
pairs_among mode [] = []
pairs_among mode (column ∷ rest) = pairs_behind mode column rest

abbrev pub pairs_on : Placed Place → List Pair
pairs_on line = pairs_among line.at.mode line.fields

-- the only pair of a line of INDEP
abbrev pub first_pair : Mode → List (List ℕ) → List Pair
first_pair mode (column ∷ row ∷ word ∷ _) = pair_of mode column row word ∷ []
first_pair mode [] = []
first_pair mode (_ ∷ []) = []
first_pair mode (_ ∷ _ ∷ []) = []

abbrev pub pairs_at : StochSection → Group → List Pair
pairs_at sections.Indep g = first_pair g.head.at.mode g.head.fields
pairs_at _ g = flat_map pairs_on g.tail

abbrev pub pairs_in : Group → List Pair
pairs_in g = pairs_at g.head.at.section g
