-- What a line adds to the lines filed before it, or the cause that refuses it.
use Rattle.std.specs.Prelude.{ℕ, Bool, true, false, not, List, [], ◌∷◌, ◌++◌, ◌+◌, ◌&&◌, ◌||◌, Option, Some, None}
use Rattle.std.specs.Prelude.{Result, Ok, Err, is_some}
use Rattle.std.specs.Prelude.{nat_lt, length, codes, if◌then◌else◌, slice_index_or, slice_set}
use Rattle.rationals.specs.Rational.{ℚ, zero_ℚ}
use Rattle.rationals.specs.Forms.{find, is_zero}
use Rattle.smps_words.specs.Line.{TextLine, reading_of}
use Rattle.smps_words.specs.Names.{same_name, place_of}
use Rattle.smps_words.specs.declared.row_kind.RowKind.{RowKind}
use Rattle.refusals.specs.declared.cause.Cause.{Cause}
use Rattle.refusals.specs.declared.cause.Cause.TheVariants as cause
use Rattle.refusals.specs.declared.cause.Refusal.{Refusal}
use Rattle.refusals.specs.Results.{◌>>=◌, needs}
use Rattle.reader_defs.specs.Reader.{Reader, stated_by, read_from}
use Rattle.core_defs.specs.declared.bounds.ColumnBounds.{ColumnBounds}
use Rattle.core_defs.specs.declared.kinds.BoundKind.{BoundKind}
use Rattle.core_defs.specs.declared.kinds.BoundKind.TheVariants as bounds
use Rattle.core_defs.specs.declared.kinds.RowUse.{RowUse}
use Rattle.core_defs.specs.declared.kinds.RowUse.TheVariants as uses
use Rattle.core_defs.specs.declared.place.RowPlace.{RowPlace}
use Rattle.core_defs.specs.declared.place.RowPlace.TheVariants as places
use Rattle.core_defs.specs.declared.section.Section.{Section}
use Rattle.core_defs.specs.declared.section.Section.TheVariants as sections
use Rattle.core_defs.specs.Bounds.{bound_kind, has_value, bounded, first_bounds, crossed}
use Rattle.core_defs.specs.Filed.{Filed, nothing_filed, last_of, closed}
use Rattle.core_defs.specs.Number.{number_of, is_negative}
use Rattle.core_defs.specs.Section.{section_of, rank, is_end}
use Rattle.core_defs.specs.Stated.{use_of, same_set, chosen}
use Rattle.core_defs.specs.Terms.{with_term}

-- the limits of a core
abbrev pub most_rows : ℕ
most_rows = 4000

abbrev pub most_columns : ℕ
most_columns = 4000

abbrev pub most_entries : ℕ
most_entries = 100000

-- the name is the one that is held
abbrev pub is_named : Option (List ℕ) → List ℕ → Bool
is_named None name = false
is_named (Some held) name = same_name held name

abbrev pub place_among : Option ℕ → Option ℕ → Option RowPlace
place_among (Some row) free = Some (places.Constraint row)
place_among None (Some row) = Some (places.Free row)
place_among None None = None

-- the row with this name
abbrev pub row_at : List (List ℕ) → List (List ℕ) → List ℕ → Option RowPlace
row_at free rows name = place_among (place_of rows name) (place_of free name)

-- ---- ROWS: kind, name

abbrev pub with_free : Filed → List ℕ → Filed
with_free f name = record f { free = f.free ++ name ∷ []; free_rhs = f.free_rhs ++ None ∷ [] }

abbrev pub with_row : Filed → RowKind → List ℕ → Filed
with_row f kind name = record f {
  rows = f.rows ++ name ∷ [];
  kinds = f.kinds ++ kind ∷ [];
  rhs = f.rhs ++ None ∷ [];
  ranges = f.ranges
      ++ None ∷ [];
}

-- a new row
abbrev pub with_use : Filed → List ℕ → RowUse → Result Filed Cause
with_use f name uses.Free = Ok (with_free f name)
with_use f name (uses.Constraint kind) = if nat_lt (length f.rows) most_rows then Ok (with_row f kind name) else Err cause.CoreLimit

unfoldable pub row_of : Filed → List ℕ → List ℕ → Result Filed Cause
row_of f word name = do
  purpose ← needs cause.RowKind (use_of word)
  if is_some (row_at f.free f.rows name) then Err cause.RowTwice else with_use f name purpose

unfoldable pub row_line : Filed → List (List ℕ) → Result Filed Cause
row_line f (word ∷ name ∷ []) = row_of f word name
row_line f [] = Err cause.FieldCount
row_line f (_ ∷ []) = Err cause.FieldCount
row_line f (_ ∷ _ ∷ _ ∷ _) = Err cause.FieldCount

-- ---- COLUMNS: column, row, value, and optionally a second row and value

-- a new column
abbrev pub opened : Filed → List ℕ → Filed
opened f name = record (closed f) { names = (closed f).names ++ name ∷ []; bounds = (closed f).bounds ++ first_bounds ∷ [] }

-- the column is that of the line before, or a new one
unfoldable pub with_column : Filed → List ℕ → Result Filed Cause
with_column f name =
    if is_named (last_of f.names) name then Ok f
    else (if is_some (place_of f.names name) then Err cause.ColumnSplit else Ok (opened f name))

abbrev pub count_of : ℚ → ℕ
count_of value = if is_zero value then 0 else 1

-- the column's value in a row; a value 0 is no entry, but stands for its place
abbrev pub with_value_at : Filed → ℚ → RowPlace → Result Filed Cause
with_value_at f value (places.Free row) = if is_some (find f.costs row) then Err cause.EntryTwice
    else Ok (record f { costs = with_term row value f.costs })
with_value_at f value (places.Constraint row) =
    if is_some (find f.terms row) then Err cause.EntryTwice else Ok
    (record f { terms = with_term row value f.terms; entries = f.entries + count_of value })

-- a row and the column's value there
unfoldable pub with_value : Filed → List ℕ → List ℕ → Result Filed Cause
with_value f name word = do
  row ← needs cause.RowUnknown (row_at f.free f.rows name)
  value ← number_of word
  with_value_at f value row

-- not too many columns and entries
abbrev pub within_limits : Filed → Result Filed Cause
within_limits f = if nat_lt most_columns (length f.names) || nat_lt most_entries f.entries then Err cause.CoreLimit else Ok f

unfoldable pub column_line : Filed → List (List ℕ) → Result Filed Cause
column_line f (column ∷ row ∷ word ∷ []) =
    if same_name row (codes "'MARKER'") then Err cause.IntegerMarker
    else (with_column f column >>= λ g. with_value g row word >>= λ h. within_limits h)
column_line f (column ∷ row ∷ word ∷ second ∷ other ∷ []) = do
  g ← with_column f column
  h ← with_value g row word
  i ← with_value h second other
  within_limits i
column_line f [] = Err cause.FieldCount
column_line f (_ ∷ []) = Err cause.FieldCount
column_line f (_ ∷ _ ∷ []) = Err cause.FieldCount
column_line f (_ ∷ _ ∷ _ ∷ _ ∷ []) = Err cause.FieldCount
column_line f (_ ∷ _ ∷ _ ∷ _ ∷ _ ∷ _ ∷ _) = Err cause.FieldCount

-- ---- RHS and RANGES: optional set name, row, value, and optionally a second row and value

-- the first line's set is used
abbrev pub choosing_rhs : Filed → Option (List ℕ) → Filed
choosing_rhs f set = record f { rhs_set = Some (chosen f.rhs_set set) }

-- a line of another set adds nothing
abbrev pub in_rhs_set : Filed → Option (List ℕ) → (Filed → Result Filed Cause) → Result Filed Cause
in_rhs_set f set next = if same_set (chosen f.rhs_set set) set then next (choosing_rhs f set) else Ok (choosing_rhs f set)

-- the objective's right-hand side is 0
abbrev pub is_cost_rhs : ℕ → ℚ → Bool
is_cost_rhs row value = not (nat_lt 0 row) && not (is_zero value)

-- a row's right-hand side
abbrev pub with_rhs_at : Filed → ℚ → RowPlace → Result Filed Cause
with_rhs_at f value (places.Free row) =
    if is_cost_rhs row value then Err cause.ObjectiveRhs
    else (if is_some (slice_index_or f.free_rhs row None) then Err cause.EntryTwice
    else Ok (record f { free_rhs = slice_set f.free_rhs row (Some value) }))
with_rhs_at f value (places.Constraint row) =
    if is_some (slice_index_or f.rhs row None) then Err cause.EntryTwice else Ok (record f { rhs = slice_set f.rhs row (Some value) })

unfoldable pub with_rhs : Filed → List ℕ → List ℕ → Result Filed Cause
with_rhs f name word = do
  row ← needs cause.RowUnknown (row_at f.free f.rows name)
  value ← number_of word
  with_rhs_at f value row

unfoldable pub rhs_line : Filed → List (List ℕ) → Result Filed Cause
rhs_line f (row ∷ word ∷ []) = in_rhs_set f None (λ g. with_rhs g row word)
rhs_line f (set ∷ row ∷ word ∷ []) = in_rhs_set f (Some set) (λ g. with_rhs g row word)
rhs_line f (row ∷ word ∷ second ∷ other ∷ []) = in_rhs_set f None (λ g. with_rhs g row word >>= λ h. with_rhs h second other)
rhs_line f (set ∷ row ∷ word ∷ second ∷ other ∷ []) =
    in_rhs_set f (Some set) (λ g. with_rhs g row word >>= λ h. with_rhs h second other)
rhs_line f [] = Err cause.FieldCount
rhs_line f (_ ∷ []) = Err cause.FieldCount
rhs_line f (_ ∷ _ ∷ _ ∷ _ ∷ _ ∷ _ ∷ _) = Err cause.FieldCount

abbrev pub choosing_range : Filed → Option (List ℕ) → Filed
choosing_range f set = record f { range_set = Some (chosen f.range_set set) }

abbrev pub in_range_set : Filed → Option (List ℕ) → (Filed → Result Filed Cause) → Result Filed Cause
in_range_set f set next = if same_set (chosen f.range_set set) set then next (choosing_range f set) else Ok (choosing_range f set)

-- only a constraint has a range
abbrev pub constraint_at : RowPlace → Result ℕ Cause
constraint_at (places.Free row) = Err cause.RangeOnFree
constraint_at (places.Constraint row) = Ok row

abbrev pub with_range_at : Filed → ℚ → ℕ → Result Filed Cause
with_range_at f value row = if is_some (slice_index_or f.ranges row None) then Err cause.EntryTwice
    else Ok (record f { ranges = slice_set f.ranges row (Some value) })

unfoldable pub with_range : Filed → List ℕ → List ℕ → Result Filed Cause
with_range f name word = do
  place ← needs cause.RowUnknown (row_at f.free f.rows name)
  row ← constraint_at place
  value ← number_of word
  with_range_at f value row

unfoldable pub range_line : Filed → List (List ℕ) → Result Filed Cause
range_line f (row ∷ word ∷ []) = in_range_set f None (λ g. with_range g row word)
range_line f (set ∷ row ∷ word ∷ []) = in_range_set f (Some set) (λ g. with_range g row word)
range_line f (row ∷ word ∷ second ∷ other ∷ []) =
    in_range_set f None (λ g. with_range g row word >>= λ h. with_range h second other)
range_line f (set ∷ row ∷ word ∷ second ∷ other ∷ []) = in_range_set f (Some set)
    (λ g. with_range g row word >>= λ h. with_range h second other)
range_line f [] = Err cause.FieldCount
range_line f (_ ∷ []) = Err cause.FieldCount
range_line f (_ ∷ _ ∷ _ ∷ _ ∷ _ ∷ _ ∷ _) = Err cause.FieldCount

-- ---- BOUNDS: kind, optional set name, column, value

abbrev pub choosing_bound : Filed → Option (List ℕ) → Filed
choosing_bound f set = record f { bound_set = Some (chosen f.bound_set set) }

abbrev pub in_bound_set : Filed → Option (List ℕ) → (Filed → Result Filed Cause) → Result Filed Cause
in_bound_set f set next = if same_set (chosen f.bound_set set) set then next (choosing_bound f set) else Ok (choosing_bound f set)

-- an upper bound below 0 wants a line for the lower one
abbrev pub is_sudden : BoundKind → ℚ → ColumnBounds → Bool
is_sudden bounds.Upper value old = is_negative value && not old.stated
is_sudden bounds.Lower value old = false
is_sudden bounds.Fixed value old = false
is_sudden bounds.Free value old = false
is_sudden bounds.NoLower value old = false
is_sudden bounds.NoUpper value old = false

abbrev pub are_crossed : ColumnBounds → Bool
are_crossed all = crossed all.lower all.upper

-- the column with this number is bounded
unfoldable pub with_bound_at : Filed → BoundKind → ℕ → ℚ → Result Filed Cause
with_bound_at f kind place value =
    if is_sudden kind value (slice_index_or f.bounds place first_bounds) then Err cause.UpperNegative
    else (if are_crossed (bounded (slice_index_or f.bounds place first_bounds) kind value) then Err cause.BoundsCross
    else Ok (record f { bounds = slice_set f.bounds place (bounded (slice_index_or f.bounds place first_bounds) kind value) }))

unfoldable pub with_bound : Filed → BoundKind → List ℕ → List ℕ → Result Filed Cause
with_bound f kind column word = do
  place ← needs cause.ColumnUnknown (place_of f.names column)
  value ← number_of word
  with_bound_at f kind place value

unfoldable pub without_bound : Filed → BoundKind → List ℕ → Result Filed Cause
without_bound f kind column = do
  place ← needs cause.ColumnUnknown (place_of f.names column)
  with_bound_at f kind place zero_ℚ

-- behind LO, UP and FX
unfoldable pub value_line : Filed → BoundKind → List (List ℕ) → Result Filed Cause
value_line f kind (column ∷ word ∷ []) = in_bound_set f None (λ g. with_bound g kind column word)
value_line f kind (set ∷ column ∷ word ∷ []) = in_bound_set f (Some set) (λ g. with_bound g kind column word)
value_line f kind [] = Err cause.FieldCount
value_line f kind (_ ∷ []) = Err cause.FieldCount
value_line f kind (_ ∷ _ ∷ _ ∷ _ ∷ _) = Err cause.FieldCount

-- behind FR, MI and PL; a fourth field is skipped
unfoldable pub plain_line : Filed → BoundKind → List (List ℕ) → Result Filed Cause
plain_line f kind (column ∷ []) = in_bound_set f None (λ g. without_bound g kind column)
plain_line f kind (set ∷ column ∷ []) = in_bound_set f (Some set) (λ g. without_bound g kind column)
plain_line f kind (set ∷ column ∷ _ ∷ []) = in_bound_set f (Some set) (λ g. without_bound g kind column)
plain_line f kind [] = Err cause.FieldCount
plain_line f kind (_ ∷ _ ∷ _ ∷ _ ∷ _) = Err cause.FieldCount

unfoldable pub bound_line : Filed → List (List ℕ) → Result Filed Cause
bound_line f [] = Err cause.BoundKind
bound_line f (word ∷ rest) = do
  kind ← needs cause.BoundKind (bound_kind word)
  if has_value kind then value_line f kind rest else plain_line f kind rest

-- ---- headers

-- COLUMNS wants an objective
abbrev pub enter : Filed → Section → Result Filed Cause
enter f sections.Columns = if nat_lt 0 (length f.free) then Ok (record f { section = sections.Columns; has_columns = true })
    else Err cause.NoObjective
enter f sections.Start = Ok (record f { section = sections.Start })
enter f sections.Name = Ok (record f { section = sections.Name })
enter f sections.Rows = Ok (record f { section = sections.Rows })
enter f sections.Rhs = Ok (record f { section = sections.Rhs })
enter f sections.Ranges = Ok (record f { section = sections.Ranges })
enter f sections.Bounds = Ok (record f { section = sections.Bounds })
enter f sections.End = Ok (record f { section = sections.End })

-- a header: the section comes after the one before it
unfoldable pub header_word : Filed → List ℕ → Result Filed Cause
header_word f word = do
  next ← needs cause.SectionUnknown (section_of word)
  if nat_lt (rank f.section) (rank next) then enter f next else Err cause.SectionOrder

-- words after the first are skipped
abbrev pub header_line : Filed → List (List ℕ) → Result Filed Cause
header_line f [] = Err cause.SectionUnknown
header_line f (word ∷ _) = header_word f word

-- ---- lines

-- a data line of the section
abbrev pub data_line : Section → Filed → List (List ℕ) → Result Filed Cause
data_line sections.Rows f fields = row_line f fields
data_line sections.Columns f fields = column_line f fields
data_line sections.Rhs f fields = rhs_line f fields
data_line sections.Ranges f fields = range_line f fields
data_line sections.Bounds f fields = bound_line f fields
data_line sections.Start f fields = Err cause.SectionOrder
data_line sections.Name f fields = Err cause.SectionOrder
data_line sections.End f fields = Err cause.SectionOrder

abbrev pub step : Filed → TextLine → Result Filed Cause
step f line = if line.header then header_line f line.fields else data_line f.section f line.fields

-- ---- the file

-- ENDATA is there; so must COLUMNS be
abbrev pub finish : ℕ → ℕ → Filed → Result Filed Refusal
finish end_line number f = if f.has_columns then Ok f else Err (record { line = end_line; cause = cause.SectionMissing })

-- a core file as its lines are filed, one after the other
abbrev pub filed_file : Reader Filed Filed
filed_file = record { stated = stated_by step nothing_filed; step = step; is_end = λ f. is_end f.section; finish = finish }

-- what filing a text line by line gives
abbrev pub filed_text : List ℕ → Result Filed Refusal
filed_text text = read_from filed_file (reading_of 0 text).end_line nothing_filed (reading_of 0 text).lines
