-- The lines of a section: a line belongs to the section of the last header up to it, and nothing comes behind ENDATA.
use Rattle.std.specs.Prelude.{ℕ, Bool, false, List, [], ◌∷◌, ◌++◌, ◌&&◌, ◌||◌, not, if◌then◌else◌}
use Rattle.std.specs.Option.{unwrap_or}
use Rattle.smps_words.specs.Line.{TextLine}
use Rattle.core_defs.specs.declared.section.Section.{Section}
use Rattle.core_defs.specs.declared.section.Section.TheVariants as sections
use Rattle.core_defs.specs.Section.{section_of, same_section, is_end}

abbrev pub first_word : List (List ℕ) → List ℕ
first_word [] = []
first_word (word ∷ _) = word

-- the section behind a line: that of its header, where it is one
abbrev pub section_behind : Section → TextLine → Section
section_behind before line = if is_end before then before else (if line.header then unwrap_or (section_of (first_word line.fields)) before
    else before)

-- the section behind all of the lines
abbrev pub section_after : Section → List TextLine → Section
section_after before [] = before
section_after before (line ∷ lines) = section_after (section_behind before line) lines

abbrev pub last_section : List TextLine → Section
last_section lines = section_after sections.Start lines

-- some header begins the section
abbrev pub has_after : Section → Section → List TextLine → Bool
has_after wanted before [] = false
has_after wanted before (line ∷ lines) = (line.header && same_section (section_behind before line) wanted)
    || has_after wanted (section_behind before line) lines

abbrev pub has_section : Section → List TextLine → Bool
has_section wanted lines = has_after wanted sections.Start lines

-- the fields of a line, where it is a data line and its section is the wanted one
abbrev pub fields_in : Section → Section → TextLine → List (List (List ℕ))
fields_in wanted at line = if line.header || not (same_section at wanted) then [] else line.fields ∷ []

abbrev pub data_in : Section → Section → List TextLine → List (List (List ℕ))
data_in wanted before [] = []
data_in wanted before (line ∷ lines) = fields_in wanted before line ++ data_in wanted (section_behind before line) lines

-- The fields of the data lines of a section, line by line.
abbrev pub data_of : Section → List TextLine → List (List (List ℕ))
data_of wanted lines = data_in wanted sections.Start lines
