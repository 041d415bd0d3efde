-- Which line of a core file is refused, and for which cause, by the lines before it.
use Rattle.std.specs.Prelude.{◌≡◌, ℕ, ◌+◌, Bool, true, false, List, [], ◌∷◌, ◌++◌, Option, Some, None, Result, Ok}
use Rattle.std.specs.Prelude.{Err, ◌&&◌, ◌||◌}
use Rattle.std.specs.Prelude.{not, is_some, nat_lt, length, codes, if◌then◌else◌}
use Rattle.rationals.specs.Forms.{is_zero}
use Rattle.smps_words.specs.Line.{TextLine, reading_of}
use Rattle.smps_words.specs.Names.{same_name, place_of}
use Rattle.refusals.specs.declared.cause.Cause.{Cause}
use Rattle.refusals.specs.declared.cause.Cause.TheVariants as cause
use Rattle.refusals.specs.declared.cause.ReadFail.{ReadFail}
use Rattle.refusals.specs.declared.cause.ReadFail.TheVariants as fail
use Rattle.refusals.specs.Results.{unless_refused}
use Rattle.reader_defs.specs.Reader.{Reader, IsWhole, IsFault}
use Rattle.core_defs.specs.declared.kinds.RowUse.{RowUse}
use Rattle.core_defs.specs.declared.kinds.RowUse.TheVariants as uses
use Rattle.core_defs.specs.declared.section.Section.{Section}
use Rattle.core_defs.specs.declared.section.Section.TheVariants as sections
use Rattle.core_defs.specs.Bounds.{Bound, bound_kind, bound_on, has_value, bounds_on, first_bound_set, bounded, bounds_in}
use Rattle.core_defs.specs.Filed.{last_of}
use Rattle.core_defs.specs.Lines.{first_word, last_section, has_section, data_of}
use Rattle.core_defs.specs.Number.{number_fault}
use Rattle.core_defs.specs.Section.{section_of, rank, same_section, is_end}
use Rattle.core_defs.specs.Stated.{use_of, free_rows, constraints, Pair, pairs_after, columns, entry_pairs, number_in, value_on, set_on}
use Rattle.core_defs.specs.Stated.{set_pairs, same_set, first_set, chosen, rhs_pairs, range_pairs}
use Rattle.core_defs.specs.Step.{most_rows, most_columns, most_entries, is_named, is_sudden, are_crossed}

-- a fault, or else a further one
infixr 10 ◌orelse◌
abbrev pub ◌orelse◌ : Option Cause → Option Cause → Option Cause
(Some cause) orelse later = Some cause
None orelse later = later

abbrev pub is_there : List (List ℕ) → List ℕ → Bool
is_there names name = is_some (place_of names name)

-- ---- ROWS

-- an earlier line of ROWS names the row
abbrev pub is_row : List TextLine → List ℕ → Bool
is_row before name = is_there (constraints before) name || is_there (free_rows before) name

-- a constraint more than there may be
abbrev pub use_fault : List TextLine → RowUse → Option Cause
use_fault before uses.Free = None
use_fault before (uses.Constraint kind) = if nat_lt (length (constraints before)) most_rows then None else Some cause.CoreLimit

abbrev pub kind_fault : List TextLine → List ℕ → Option RowUse → Option Cause
kind_fault before name None = Some cause.RowKind
kind_fault before name (Some purpose) = if is_row before name then Some cause.RowTwice else use_fault before purpose

abbrev pub row_fault : List TextLine → List (List ℕ) → Option Cause
row_fault before (word ∷ name ∷ []) = kind_fault before name (use_of word)
row_fault before [] = Some cause.FieldCount
row_fault before (_ ∷ []) = Some cause.FieldCount
row_fault before (_ ∷ _ ∷ _ ∷ _) = Some cause.FieldCount

-- ---- COLUMNS

-- the column was there, and another one was there after it
abbrev pub split_fault : List TextLine → List ℕ → Option Cause
split_fault before column = if not (is_named (last_of (columns before)) column) && is_there (columns before) column
    then Some cause.ColumnSplit else None

-- the row is unknown, the value is no number, or an earlier pair names both
abbrev pub pair_fault : List TextLine → List Pair → Pair → Option Cause
pair_fault before pairs pair =
    if not (is_row before pair.row) then Some cause.RowUnknown
    else (number_fault pair.word orelse (if is_some (value_on pairs pair.column pair.row) then Some cause.EntryTwice else None))

-- a second pair comes behind the first
abbrev pub pairs_fault : List TextLine → List Pair → List Pair → Option Cause
pairs_fault before pairs [] = None
pairs_fault before pairs (pair ∷ more) = pair_fault before pairs pair orelse pairs_fault before (pairs ++ pair ∷ []) more

-- the pair gives a constraint a value that isn't 0
abbrev pub counts : List (List ℕ) → Pair → Bool
counts rows pair = is_there rows pair.row && not (is_zero (number_in pair.word))

-- how many of the pairs give a constraint a value that isn't 0
abbrev pub count_pairs : List (List ℕ) → List Pair → ℕ
count_pairs rows [] = 0
count_pairs rows (pair ∷ pairs) = (if counts rows pair then 1 else 0) + count_pairs rows pairs

-- more columns or entries than there may be
abbrev pub limit_fault : List TextLine → Option Cause
limit_fault lines = if nat_lt most_columns (length (columns lines))
    || nat_lt most_entries (count_pairs (constraints lines) (entry_pairs lines)) then Some cause.CoreLimit else None

abbrev pub column_fault : List TextLine → TextLine → List (List ℕ) → Option Cause
column_fault before line (column ∷ row ∷ word ∷ []) =
    if same_name row (codes "'MARKER'") then Some cause.IntegerMarker
    else (split_fault before column orelse (pairs_fault before (entry_pairs before) (pairs_after column (row ∷ word ∷ []))
    orelse limit_fault (before ++ line ∷ [])))
column_fault before line (column ∷ row ∷ word ∷ second ∷ other ∷ []) =
    split_fault before column orelse (pairs_fault before (entry_pairs before)
    (pairs_after column (row ∷ word ∷ second ∷ other ∷ []))
    orelse limit_fault (before ++ line ∷ []))
column_fault before line [] = Some cause.FieldCount
column_fault before line (_ ∷ []) = Some cause.FieldCount
column_fault before line (_ ∷ _ ∷ []) = Some cause.FieldCount
column_fault before line (_ ∷ _ ∷ _ ∷ _ ∷ []) = Some cause.FieldCount
column_fault before line (_ ∷ _ ∷ _ ∷ _ ∷ _ ∷ _ ∷ _) = Some cause.FieldCount

-- ---- RHS and RANGES

-- two to five fields
abbrev pub fits_set : List (List ℕ) → Bool
fits_set fields = nat_lt 1 (length fields) && nat_lt (length fields) 6

-- the line is of the set that is used
abbrev pub is_used : List (List (List ℕ)) → List (List ℕ) → Bool
is_used earlier fields = same_set (chosen (first_set earlier) (set_on fields)) (set_on fields)

abbrev pub is_first : Option ℕ → Bool
is_first None = false
is_first (Some place) = not (nat_lt 0 place)

-- a value on the objective that isn't 0
abbrev pub is_objective_rhs : List TextLine → Pair → Bool
is_objective_rhs before pair = (not (is_there (constraints before) pair.row) && is_first (place_of (free_rows before) pair.row))
    && not (is_zero (number_in pair.word))

abbrev pub rhs_pair_fault : List TextLine → List Pair → Pair → Option Cause
rhs_pair_fault before pairs pair =
    if not (is_row before pair.row) then Some cause.RowUnknown
    else (number_fault pair.word orelse (if is_objective_rhs before pair then Some cause.ObjectiveRhs
    else (if is_some (value_on pairs [] pair.row) then Some cause.EntryTwice else None)))

abbrev pub rhs_pairs_fault : List TextLine → List Pair → List Pair → Option Cause
rhs_pairs_fault before pairs [] = None
rhs_pairs_fault before pairs (pair ∷ more) = rhs_pair_fault before pairs pair orelse rhs_pairs_fault before (pairs ++ pair ∷ []) more

-- a line of another set is checked no further
abbrev pub rhs_fault : List TextLine → List (List ℕ) → Option Cause
rhs_fault before fields =
    if not (fits_set fields) then Some cause.FieldCount
    else (if is_used (data_of sections.Rhs before) fields then rhs_pairs_fault before (rhs_pairs before) (set_pairs fields) else None)

abbrev pub range_pair_fault : List TextLine → List Pair → Pair → Option Cause
range_pair_fault before pairs pair =
    if not (is_row before pair.row) then Some cause.RowUnknown
    else (if not (is_there (constraints before) pair.row) then Some cause.RangeOnFree
    else (number_fault pair.word orelse (if is_some (value_on pairs [] pair.row) then Some cause.EntryTwice else None)))

abbrev pub range_pairs_fault : List TextLine → List Pair → List Pair → Option Cause
range_pairs_fault before pairs [] = None
range_pairs_fault before pairs (pair ∷ more) = range_pair_fault before pairs pair
    orelse range_pairs_fault before (pairs ++ pair ∷ []) more

abbrev pub range_fault : List TextLine → List (List ℕ) → Option Cause
range_fault before fields =
    if not (fits_set fields) then Some cause.FieldCount
    else (if is_used (data_of sections.Ranges before) fields then range_pairs_fault before (range_pairs before) (set_pairs fields)
    else None)

-- ---- BOUNDS

-- the value on the line is no number
abbrev pub word_fault : Bound → Option Cause
word_fault bound = if has_value bound.kind then number_fault bound.word else None

-- an upper bound below 0 without a line for the lower one; then a lower bound above the upper
abbrev pub bounds_fault : List TextLine → Bound → Option Cause
bounds_fault before bound =
    if is_sudden bound.kind (number_in bound.word) (bounds_in before bound.column) then Some cause.UpperNegative
    else (if are_crossed (bounded (bounds_in before bound.column) bound.kind (number_in bound.word)) then Some cause.BoundsCross else None)

-- a line of another set is checked no further
abbrev pub used_bound_fault : List TextLine → Bound → Option Cause
used_bound_fault before bound =
    if not (same_set (chosen (first_bound_set (bounds_on before)) bound.set) bound.set) then None
    else (if not (is_there (columns before) bound.column) then Some cause.ColumnUnknown
    else (word_fault bound orelse bounds_fault before bound))

abbrev pub first_bound_fault : List TextLine → List Bound → Option Cause
first_bound_fault before [] = Some cause.FieldCount
first_bound_fault before (bound ∷ _) = used_bound_fault before bound

abbrev pub bound_fault : List TextLine → List (List ℕ) → Option Cause
bound_fault before fields = if not (is_some (bound_kind (first_word fields))) then Some cause.BoundKind
    else first_bound_fault before (bound_on fields)

-- ---- headers and lines

-- COLUMNS wants an N row before it
abbrev pub section_fault : List TextLine → Option Section → Option Cause
section_fault before None = Some cause.SectionUnknown
section_fault before (Some next) =
    if not (nat_lt (rank (last_section before)) (rank next)) then Some cause.SectionOrder
    else (if same_section next sections.Columns && not (nat_lt 0 (length (free_rows before))) then Some cause.NoObjective else None)

abbrev pub data_fault : Section → List TextLine → TextLine → Option Cause
data_fault sections.Rows before line = row_fault before line.fields
data_fault sections.Columns before line = column_fault before line line.fields
data_fault sections.Rhs before line = rhs_fault before line.fields
data_fault sections.Ranges before line = range_fault before line.fields
data_fault sections.Bounds before line = bound_fault before line.fields
data_fault sections.Start before line = Some cause.SectionOrder
data_fault sections.Name before line = Some cause.SectionOrder
data_fault sections.End before line = Some cause.SectionOrder

-- why a line is refused that stands behind these lines, if it is
abbrev pub fault : List TextLine → TextLine → Option Cause
fault before line = if line.header then section_fault before (section_of (first_word line.fields))
    else data_fault (last_section before) before line

-- ---- texts

-- A core file as all of its lines have it: those up to ENDATA, among which COLUMNS must be; if it isn't, the line behind the last is named.
abbrev pub core_file : Reader (List TextLine) (List TextLine)
core_file = record {
  stated = λ lines. lines;
  step = λ before line. unless_refused (fault before line) (before ++ line ∷ []);
  is_end = λ lines. is_end (last_section lines);
  finish = λ end_line number lines. if has_section sections.Columns lines then Ok lines
      else Err (record { line = end_line; cause = cause.SectionMissing });
}

-- The lines up to ENDATA are without fault, and neither COLUMNS nor ENDATA is missing.
pub record IsCoreFile (lines : List TextLine) : Type 0 where
  pub number : ℕ
  pub read : List TextLine
  pub whole : IsWhole core_file lines number read
  pub columns : has_section sections.Columns read ≡ true

-- A text is read exactly where it is a core file; else its fault is named.
abbrev pub IsReadOrRefused : {X : Type 0} → List ℕ → Result X ReadFail → Type 0
IsReadOrRefused text (Ok _) = IsCoreFile (reading_of 0 text).lines
IsReadOrRefused text (Err fail.Memory) = Unit {0}
IsReadOrRefused text (Err (fail.Refused refusal)) = (IsCoreFile (reading_of 0 text).lines → ⊥)
    × IsFault core_file (reading_of 0 text).lines (reading_of 0 text).end_line refusal
