-- What the lines of ROWS, COLUMNS, RHS and RANGES state.
use Rattle.std.specs.Prelude.{ℕ, Bool, true, false, List, [], ◌∷◌, ◌++◌, Option, Some, None, Result, Ok, Err, ◌&&◌, is_some}
use Rattle.std.specs.Prelude.{codes}
use Rattle.std.specs.Prelude.{flat_map, if◌then◌else◌}
use Rattle.std.specs.Option.{unwrap_or}
use Rattle.rationals.specs.Rational.{ℚ, zero_ℚ}
use Rattle.frac128.specs.Numbers.{read_number}
use Rattle.frac128.specs.declared.text.NumFault.{NumFault}
use Rattle.smps_words.specs.Line.{TextLine}
use Rattle.smps_words.specs.Names.{same_name, place_of}
use Rattle.smps_words.specs.declared.row_kind.RowKind.{RowKind}
use Rattle.smps_words.specs.declared.row_kind.RowKind.TheVariants.{Less, Greater, Equal}
use Rattle.core_defs.specs.declared.kinds.RowUse.{RowUse}
use Rattle.core_defs.specs.declared.kinds.RowUse.TheVariants as uses
use Rattle.core_defs.specs.declared.section.Section.TheVariants as sections
use Rattle.core_defs.specs.Lines.{data_of}

-- ---- ROWS: kind, name

-- what a row's kind says
abbrev pub use_of : List ℕ → Option RowUse
use_of word =
    if same_name word (codes "N") then Some uses.Free
    else (if same_name word (codes "L") then Some (uses.Constraint Less)
    else (if same_name word (codes "G") then Some (uses.Constraint Greater)
    else (if same_name word (codes "E") then Some (uses.Constraint Equal) else None)))

abbrev pub free_with : Option RowUse → List ℕ → List (List ℕ)
free_with (Some uses.Free) name = name ∷ []
free_with (Some (uses.Constraint kind)) name = []
free_with None name = []

abbrev pub constraint_with : Option RowUse → List ℕ → List (List ℕ)
constraint_with (Some uses.Free) name = []
constraint_with (Some (uses.Constraint kind)) name = name ∷ []
constraint_with None name = []

abbrev pub kind_with : Option RowUse → List RowKind
kind_with (Some uses.Free) = []
kind_with (Some (uses.Constraint kind)) = kind ∷ []
kind_with None = []

abbrev pub free_name : List (List ℕ) → List (List ℕ)
free_name [] = []
free_name (_ ∷ []) = []
free_name (word ∷ name ∷ _) = free_with (use_of word) name

abbrev pub constraint_name : List (List ℕ) → List (List ℕ)
constraint_name [] = []
constraint_name (_ ∷ []) = []
constraint_name (word ∷ name ∷ _) = constraint_with (use_of word) name

abbrev pub constraint_kind : List (List ℕ) → List RowKind
constraint_kind [] = []
constraint_kind (_ ∷ []) = []
constraint_kind (word ∷ _ ∷ _) = kind_with (use_of word)

-- the N rows: the objective, and those that are skipped
abbrev pub free_rows : List TextLine → List (List ℕ)
free_rows lines = flat_map free_name (data_of sections.Rows lines)

-- the other rows, and their kinds
abbrev pub constraints : List TextLine → List (List ℕ)
constraints lines = flat_map constraint_name (data_of sections.Rows lines)

abbrev pub constraint_kinds : List TextLine → List RowKind
constraint_kinds lines = flat_map constraint_kind (data_of sections.Rows lines)

-- ---- COLUMNS: column, row, value, and optionally a second row and value

-- a row with the field that is its value, in a column
pub record Pair : Type 0 where
  pub column : List ℕ
  pub row : List ℕ
  pub word : List ℕ

abbrev pub pairs_after : List ℕ → List (List ℕ) → List Pair
pairs_after column [] = []
pairs_after column (_ ∷ []) = []
pairs_after column (row ∷ word ∷ rest) = record { column = column; row = row; word = word } ∷ pairs_after column rest

abbrev pub column_pairs : List (List ℕ) → List Pair
column_pairs [] = []
column_pairs (column ∷ rest) = pairs_after column rest

abbrev pub column_name : List (List ℕ) → List (List ℕ)
column_name [] = []
column_name (column ∷ _) = column ∷ []

-- the names in front of the lines of COLUMNS
abbrev pub columns_named : List TextLine → List (List ℕ)
columns_named lines = flat_map column_name (data_of sections.Columns lines)

-- the field pairs of COLUMNS
abbrev pub entry_pairs : List TextLine → List Pair
entry_pairs lines = flat_map column_pairs (data_of sections.Columns lines)

-- the names, with one more that isn't among them
abbrev pub with_new : List (List ℕ) → List ℕ → List (List ℕ)
with_new names name = if is_some (place_of names name) then names else names ++ name ∷ []

abbrev pub distinct_from : List (List ℕ) → List (List ℕ) → List (List ℕ)
distinct_from seen [] = seen
distinct_from seen (name ∷ names) = distinct_from (with_new seen name) names

-- the columns: each name at its first place
abbrev pub columns : List TextLine → List (List ℕ)
columns lines = distinct_from [] (columns_named lines)

abbrev pub number_or_zero : Result ℚ NumFault → ℚ
number_or_zero (Ok value) = value
number_or_zero (Err _) = zero_ℚ

-- the number that a field is
abbrev pub number_in : List ℕ → ℚ
number_in word = number_or_zero (read_number word)

-- the value on the field pair that names both
abbrev pub value_on : List Pair → List ℕ → List ℕ → Option ℚ
value_on [] column row = None
value_on (pair ∷ pairs) column row = if same_name column pair.column && same_name row pair.row then Some (number_in pair.word)
    else value_on pairs column row

-- the value of a column in a row; one that isn't stated is 0
abbrev pub entry_in : List TextLine → List ℕ → List ℕ → ℚ
entry_in lines column row = unwrap_or (value_on (entry_pairs lines) column row) zero_ℚ

-- ---- RHS and RANGES: optional set name, row, value, and optionally a second row and value

-- the set that a line names: it does where it has three or five fields
abbrev pub set_on : List (List ℕ) → Option (List ℕ)
set_on (set ∷ _ ∷ _ ∷ []) = Some set
set_on (set ∷ _ ∷ _ ∷ _ ∷ _ ∷ []) = Some set
set_on _ = None

-- its rows and values; they stand in no column
abbrev pub set_pairs : List (List ℕ) → List Pair
set_pairs (_ ∷ row ∷ word ∷ []) = pairs_after [] (row ∷ word ∷ [])
set_pairs (_ ∷ row ∷ word ∷ second ∷ other ∷ []) = pairs_after [] (row ∷ word ∷ second ∷ other ∷ [])
set_pairs fields = pairs_after [] fields

abbrev pub same_set : Option (List ℕ) → Option (List ℕ) → Bool
same_set None None = true
same_set None (Some _) = false
same_set (Some _) None = false
same_set (Some one) (Some other) = same_name one other

-- The set of the first line, where there is one, is used; lines without a set name are a set of their own.
abbrev pub first_set : List (List (List ℕ)) → Option (Option (List ℕ))
first_set [] = None
first_set (fields ∷ _) = Some (set_on fields)

-- the set that is used where there is a further line
abbrev pub chosen : Option (Option (List ℕ)) → Option (List ℕ) → Option (List ℕ)
chosen None set = set
chosen (Some used) set = used

abbrev pub pairs_of_set : Option (Option (List ℕ)) → List (List ℕ) → List Pair
pairs_of_set used fields = if same_set (chosen used (set_on fields)) (set_on fields) then set_pairs fields else []

-- the field pairs of the set that is used
abbrev pub pairs_used : List (List (List ℕ)) → List Pair
pairs_used data_ = flat_map (pairs_of_set (first_set data_)) data_

abbrev pub rhs_pairs : List TextLine → List Pair
rhs_pairs lines = pairs_used (data_of sections.Rhs lines)

abbrev pub range_pairs : List TextLine → List Pair
range_pairs lines = pairs_used (data_of sections.Ranges lines)

-- the right-hand side of a row; one that isn't stated is 0
abbrev pub rhs_in : List TextLine → List ℕ → ℚ
rhs_in lines row = unwrap_or (value_on (rhs_pairs lines) [] row) zero_ℚ

-- the range of a row, where one is stated
abbrev pub range_in : List TextLine → List ℕ → Option ℚ
range_in lines row = value_on (range_pairs lines) [] row

-- the name of a set of right-hand sides; where it has none it is RHS
abbrev pub name_of_set : Option (Option (List ℕ)) → List ℕ
name_of_set None = codes "RHS"
name_of_set (Some set) = unwrap_or set (codes "RHS")

abbrev pub rhs_set_in : List TextLine → List ℕ
rhs_set_in lines = name_of_set (first_set (data_of sections.Rhs lines))
