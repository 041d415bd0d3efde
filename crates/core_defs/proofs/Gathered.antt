-- What counts of the lines so far, and how it is filed.
use Rattle.std.proofs.Common.{◌≡◌, ◌≤◌, ℕ, Bool, true, false, List, [], Option, Some, None, map, flat_map, length, nat_lt}
use Rattle.rationals.specs.Sparse.{Entry}
use Rattle.smps_words.specs.Line.{TextLine}
use Rattle.core_defs.specs.declared.parts.ColumnPart.{ColumnPart}
use Rattle.core_defs.specs.declared.section.Section.{Section}
use Rattle.core_defs.specs.declared.section.Section.TheVariants as sections
use Rattle.core_defs.specs.Bounds.{Bound, bounds_on, first_bound_set, bounds_by}
use Rattle.core_defs.specs.Fault.{count_pairs}
use Rattle.core_defs.specs.Filed.{Filed, last_of, part_of}
use Rattle.core_defs.specs.Lines.{last_section, has_section, data_of}
use Rattle.core_defs.specs.Section.{rank}
use Rattle.core_defs.specs.Stated.{free_name, constraint_name, constraint_kind, Pair, columns_named, entry_pairs, distinct_from, value_on, first_set, rhs_pairs, range_pairs}
use Rattle.core_defs.specs.Step.{most_rows, most_columns, are_crossed}
use Rattle.core_defs.proofs.NameLemmas.{At, Missing, Distinct, front}
use Rattle.core_defs.proofs.TermLemmas.{terms_at}

pub record Data : Type 0 where
  pub section : Section
  pub has_columns : Bool
  pub rows : List (List (List ℕ))
  -- the names in front of the lines of COLUMNS, and their field pairs
  pub named : List (List ℕ)
  pub pairs : List Pair
  -- the sets that are used, and their field pairs
  pub rhs_set : Option (Option (List ℕ))
  pub rhs_pairs : List Pair
  pub range_set : Option (Option (List ℕ))
  pub range_pairs : List Pair
  pub bounds : List Bound

abbrev pub data_on : List TextLine → Data
data_on lines = record {
  section = last_section lines;
  has_columns = has_section sections.Columns lines;
  rows = data_of sections.Rows lines;
  named = columns_named lines;
  pairs = entry_pairs lines;
  rhs_set = first_set (data_of sections.Rhs lines);
  rhs_pairs = rhs_pairs lines;
  range_set = first_set (data_of sections.Ranges lines);
  range_pairs = range_pairs lines;
  bounds = bounds_on lines;
}

abbrev pub free_in : Data → List (List ℕ)
free_in d = flat_map free_name d.rows

abbrev pub rows_in : Data → List (List ℕ)
rows_in d = flat_map constraint_name d.rows

abbrev pub names_in : Data → List (List ℕ)
names_in d = distinct_from [] d.named

-- the values of a column in N rows or in constraints
abbrev pub values_of : List Pair → List (List ℕ) → List ℕ → List Entry
values_of pairs rows column = terms_at 0 rows (value_on pairs column)

abbrev pub last_values : List Pair → List (List ℕ) → Option (List ℕ) → List Entry
last_values pairs rows None = []
last_values pairs rows (Some column) = values_of pairs rows column

abbrev pub part_in : List Pair → List (List ℕ) → List (List ℕ) → List ℕ → ColumnPart
part_in pairs free rows column = part_of (values_of pairs free column) (values_of pairs rows column)

-- what is filed of lines
abbrev pub filed_of : Data → Filed
filed_of d = record {
  section = d.section;
  has_columns = d.has_columns;
  free = free_in d;
  rows = rows_in d;
  kinds = flat_map constraint_kind d.rows;
  names = names_in d;
  parts = map (part_in d.pairs (free_in d) (rows_in d)) (front (names_in d));
  costs = last_values d.pairs (free_in d) (last_of (names_in d));
  terms = last_values d.pairs (rows_in d) (last_of (names_in d));
  entries = count_pairs (rows_in d) d.pairs;
  rhs_set = d.rhs_set;
  rhs = map (value_on d.rhs_pairs []) (rows_in d);
  free_rhs = map (value_on d.rhs_pairs []) (free_in d);
  range_set = d.range_set;
  ranges = map (value_on d.range_pairs []) (rows_in d);
  bound_set = first_bound_set d.bounds;
  bounds = map (bounds_by d.bounds) (names_in d);
}

-- nothing is there of later sections
pub record IsEarly (section : Section) (named : List (List ℕ)) (pairs : List Pair) (rhs_set : Option (Option (List ℕ))) (rhs_pairs : List Pair) (range_set : Option (Option (List ℕ))) (range_pairs : List Pair) (bounds : List Bound) : Type 0 where
  pub no_named : nat_lt (rank section) 3 ≡ true → named ≡ []
  pub no_pairs : nat_lt (rank section) 3 ≡ true → pairs ≡ []
  pub no_rhs_set : nat_lt (rank section) 4 ≡ true → rhs_set ≡ None
  pub no_rhs_pairs : nat_lt (rank section) 4 ≡ true → rhs_pairs ≡ []
  pub no_range_set : nat_lt (rank section) 5 ≡ true → range_set ≡ None
  pub no_range_pairs : nat_lt (rank section) 5 ≡ true → range_pairs ≡ []
  pub no_bounds : nat_lt (rank section) 6 ≡ true → bounds ≡ []

pub record AreRows (free rows : List (List ℕ)) : Type 0 where
  pub free_differ : Distinct free
  pub rows_differ : Distinct rows
  -- no N row has the name of a constraint
  pub apart : (name : List ℕ) (place : ℕ) → At rows place name → Missing free name
  pub few : length rows ≤ most_rows

pub record AreColumns (names : List (List ℕ)) (pairs : List Pair) : Type 0 where
  pub few : length names ≤ most_columns
  -- a name that is no column has no value
  pub fresh : (name row : List ℕ) → Missing names name → value_on pairs name row ≡ None

-- what holds behind lines without fault
pub record Sound (d : Data) : Type 0 where
  pub rows : AreRows (free_in d) (rows_in d)
  pub columns : AreColumns (names_in d) d.pairs
  pub early : IsEarly d.section d.named d.pairs d.rhs_set d.rhs_pairs d.range_set d.range_pairs d.bounds
  pub objective : d.has_columns ≡ true → nat_lt 0 (length (free_in d)) ≡ true
  pub in_order : (name : List ℕ) → are_crossed (bounds_by d.bounds name) ≡ false
