-- The sections of a core file and their order.
use Prim.Native.String.{String}
use Rattle.std.specs.Prelude.{◌≡◌, ℕ, [], ◌∷◌, Option, Some, None, codes}
use Rattle.core_defs.specs.declared.section.Section.TheVariants as section
use Rattle.core_defs.specs.Section.{section_of, rank}
use Rattle.core_defs.specs.Step.{most_rows, most_columns, most_entries}
use Rattle.core_defs.specs.Stated.{constraints}
use Rattle.worked_values.specs.Told.{lines_told, refused_behind}

-- the cause that refuses a line behind a text
abbrev pub refused_in : String → String → Option ℕ
refused_in text line = refused_behind (codes text) line

pub record SectionsAreAsDocumented : Type 0 where
  -- the words of headers
  pub name : section_of (codes "NAME") ≡ Some section.Name
  pub rows : section_of (codes "ROWS") ≡ Some section.Rows
  pub columns : section_of (codes "COLUMNS") ≡ Some section.Columns
  pub rhs : section_of (codes "RHS") ≡ Some section.Rhs
  pub ranges : section_of (codes "RANGES") ≡ Some section.Ranges
  pub bounds : section_of (codes "BOUNDS") ≡ Some section.Bounds
  pub end : section_of (codes "ENDATA") ≡ Some section.End
  -- their order
  pub places : rank section.Name ∷ rank section.Rows ∷ rank section.Columns ∷ rank section.Rhs
      ∷ rank section.Ranges ∷ rank section.Bounds ∷ rank section.End ∷ [] ≡ 1 ∷ 2 ∷ 3 ∷ 4 ∷ 5 ∷ 6 ∷ 7 ∷ []
  pub before_all : rank section.Start ≡ 0
  -- other words, and small letters
  pub sense : refused_in "" "OBJSENSE" ≡ Some 10
  pub sets : refused_in "" "SOS" ≡ Some 10
  pub quadratic : refused_in "" "QUADOBJ" ≡ Some 10
  pub small_letters : refused_in "" "rows" ≡ Some 10
  pub longer : refused_in "" "ROWSX" ≡ Some 10
  -- in order; words behind the first are skipped
  pub first : refused_in "" "NAME MIX" ≡ None
  pub second : refused_in "NAME MIX\n" "ROWS" ≡ None
  pub third : refused_in "NAME MIX\nROWS\n N COST\n" "COLUMNS of MIX" ≡ None
  pub fourth : refused_in "NAME MIX\nROWS\n N COST\nCOLUMNS\n" "RHS" ≡ None
  pub fifth : refused_in "NAME MIX\nROWS\n N COST\nCOLUMNS\nRHS\n" "RANGES" ≡ None
  pub sixth : refused_in "NAME MIX\nROWS\n N COST\nCOLUMNS\nRHS\nRANGES\n" "BOUNDS" ≡ None
  pub seventh : refused_in "NAME MIX\nROWS\n N COST\nCOLUMNS\nRHS\nRANGES\nBOUNDS\n" "ENDATA" ≡ None
  -- NAME, RHS, RANGES and BOUNDS may be absent
  pub without_name : refused_in "" "ROWS" ≡ None
  pub without_rhs : refused_in "ROWS\n N COST\nCOLUMNS\n" "RANGES" ≡ None
  pub without_ranges : refused_in "ROWS\n N COST\nCOLUMNS\n" "BOUNDS" ≡ None
  pub without_bounds : refused_in "ROWS\n N COST\nCOLUMNS\n" "ENDATA" ≡ None
  -- each at most once
  pub name_twice : refused_in "NAME\n" "NAME" ≡ Some 11
  pub rows_twice : refused_in "ROWS\n N COST\n" "ROWS" ≡ Some 11
  pub columns_twice : refused_in "ROWS\n N COST\nCOLUMNS\n" "COLUMNS" ≡ Some 11
  pub rhs_twice : refused_in "ROWS\n N COST\nCOLUMNS\nRHS\n" "RHS" ≡ Some 11
  pub ranges_twice : refused_in "ROWS\n N COST\nCOLUMNS\nRANGES\n" "RANGES" ≡ Some 11
  pub bounds_twice : refused_in "ROWS\n N COST\nCOLUMNS\nBOUNDS\n" "BOUNDS" ≡ Some 11
  -- and none before its place
  pub name_late : refused_in "ROWS\n" "NAME" ≡ Some 11
  pub rows_late : refused_in "ROWS\n N COST\nCOLUMNS\n" "ROWS" ≡ Some 11
  pub columns_late : refused_in "ROWS\n N COST\nRHS\n" "COLUMNS" ≡ Some 11
  pub rhs_late : refused_in "ROWS\n N COST\nCOLUMNS\nRANGES\n" "RHS" ≡ Some 11
  pub ranges_late : refused_in "ROWS\n N COST\nCOLUMNS\nBOUNDS\n" "RANGES" ≡ Some 11
  -- a data line where no section takes one
  pub data_first : refused_in "" " N COST" ≡ Some 11
  pub data_of_name : refused_in "NAME MIX\n" " N COST" ≡ Some 11
  -- COLUMNS without an N row before it, also where ROWS is missing
  pub no_objective : refused_in "ROWS\n L LIM1\n" "COLUMNS" ≡ Some 26
  pub no_rows : refused_in "NAME MIX\n" "COLUMNS" ≡ Some 26
  -- nothing behind the line ENDATA is read
  pub behind_end : constraints (lines_told (codes "ROWS\n L LIM1\nENDATA\nROWS\n L LIM2\n")) ≡ codes "LIM1" ∷ []
  -- the limits
  pub rows_at_most : most_rows ≡ 4000
  pub columns_at_most : most_columns ≡ 4000
  pub entries_at_most : most_entries ≡ 100000
