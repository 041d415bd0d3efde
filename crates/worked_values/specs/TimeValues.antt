-- Time files: the sections of both forms, and what their lines name.
use Rattle.std.specs.Prelude.{◌≡◌, ℕ, true, false, List, [], ◌∷◌, ◌++◌, Some, None, codes}
use Rattle.core_defs.specs.declared.program.Core.{Core}
use Rattle.core_defs.specs.Means.{TextMeans}
use Rattle.time_defs.specs.declared.section.TimeSection.TheVariants as section
use Rattle.time_defs.specs.Section.{section_of, rank, says_explicit}
use Rattle.time_defs.specs.Stated.{Stated, stated, start_row, period_at, first_at, second_at, row_stage, column_stage}
use Rattle.worked_values.specs.Told.{lines_told}
use Rattle.worked_values.specs.SetValues.{named_rhs}

-- the core file of the tables before: the columns A and B, the objective COST, the constraints LIM1, NEED and SUM; WEIGHT is skipped
abbrev pub mix : List ℕ
mix = named_rhs ++ codes "ENDATA\n"

-- A, COST and LIM1 are of the first period, all others of the second: by where they begin, and by name
abbrev pub by_starts : Core → Stated
by_starts core = stated core (lines_told (codes "TIME MIX\nPERIODS\n A COST P1\n B NEED P2\nENDATA\n"))

abbrev pub by_names : Core → Stated
by_names core = stated core (lines_told (codes "PERIODS EXPLICIT\n P1\n P2\nROWS\n LIM1 P1\n NEED P2\n SUM P2\n"
    ++ codes "COLUMNS\n A P1\n B P2\nENDATA\n"))

pub record TimeFilesAreAsDocumented : Type 0 where
  -- the words of headers; ROWS and COLUMNS begin sections where the periods are by name alone
  pub time : section_of false (codes "TIME") ≡ Some section.Time
  pub periods : section_of false (codes "PERIODS") ≡ Some section.Periods
  pub no_rows : section_of false (codes "ROWS") ≡ None
  pub no_columns : section_of false (codes "COLUMNS") ≡ None
  pub end : section_of false (codes "ENDATA") ≡ Some section.End
  pub named_time : section_of true (codes "TIME") ≡ Some section.Time
  pub named_periods : section_of true (codes "PERIODS") ≡ Some section.Periods
  pub named_rows : section_of true (codes "ROWS") ≡ Some section.Rows
  pub named_columns : section_of true (codes "COLUMNS") ≡ Some section.Columns
  pub named_end : section_of true (codes "ENDATA") ≡ Some section.End
  pub other : section_of true (codes "RHS") ≡ None
  pub small_letters : section_of false (codes "periods") ≡ None
  -- their order
  pub places : rank section.Time ∷ rank section.Periods ∷ rank section.Rows ∷ rank section.Columns ∷ rank section.End ∷ []
      ≡ 1 ∷ 2 ∷ 3 ∷ 4 ∷ 5 ∷ []
  pub before_all : rank section.Start ≡ 0
  -- the periods are by name where the word directly behind PERIODS is EXPLICIT
  pub alone : says_explicit (codes "PERIODS" ∷ []) ≡ false
  pub explicit : says_explicit (codes "PERIODS" ∷ codes "EXPLICIT" ∷ []) ≡ true
  pub word_skipped : says_explicit (codes "PERIODS" ∷ codes "IMPLICIT" ∷ []) ≡ false
  pub not_directly : says_explicit (codes "PERIODS" ∷ codes "LP" ∷ codes "EXPLICIT" ∷ []) ≡ false
  -- a line of PERIODS is column, row and period; by name it is the period
  pub period : period_at section.Periods false (codes "A" ∷ codes "COST" ∷ codes "P1" ∷ []) ≡ codes "P1" ∷ []
  pub period_alone : period_at section.Periods true (codes "P1" ∷ []) ≡ codes "P1" ∷ []
  pub of_time : period_at section.Time false (codes "A" ∷ codes "COST" ∷ codes "P1" ∷ []) ≡ []
  -- a line of ROWS is a constraint and its period, one of COLUMNS a column and its period
  pub row_named : first_at section.Rows section.Rows (codes "NEED" ∷ codes "P2" ∷ []) ≡ codes "NEED" ∷ []
  pub row_period : second_at section.Rows section.Rows (codes "NEED" ∷ codes "P2" ∷ []) ≡ codes "P2" ∷ []
  pub column_named : first_at section.Columns section.Columns (codes "B" ∷ codes "P2" ∷ []) ≡ codes "B" ∷ []
  pub column_period : second_at section.Columns section.Columns (codes "B" ∷ codes "P2" ∷ []) ≡ codes "P2" ∷ []
  pub of_another : first_at section.Rows section.Columns (codes "B" ∷ codes "P2" ∷ []) ≡ []
  -- the objective counts as before the first constraint; no row that is skipped is the first of a period
  pub objective : (core : Core) → TextMeans mix core → start_row core (codes "COST") ≡ Some 0
  pub first_row : (core : Core) → TextMeans mix core → start_row core (codes "LIM1") ≡ Some 1
  pub second_row : (core : Core) → TextMeans mix core → start_row core (codes "NEED") ≡ Some 2
  pub third_row : (core : Core) → TextMeans mix core → start_row core (codes "SUM") ≡ Some 3
  pub skipped : (core : Core) → TextMeans mix core → start_row core (codes "WEIGHT") ≡ None
  pub row_unknown : (core : Core) → TextMeans mix core → start_row core (codes "A") ≡ None
  -- rows and columns belong to a period from its first ones on, up to those of the next line
  pub a_started : (core : Core) → TextMeans mix core → column_stage (by_starts core) 0 (codes "A") ≡ Some 0
  pub b_started : (core : Core) → TextMeans mix core → column_stage (by_starts core) 1 (codes "B") ≡ Some 1
  pub limit_started : (core : Core) → TextMeans mix core → row_stage (by_starts core) 0 (codes "LIM1") ≡ Some 0
  pub need_started : (core : Core) → TextMeans mix core → row_stage (by_starts core) 1 (codes "NEED") ≡ Some 1
  pub sum_started : (core : Core) → TextMeans mix core → row_stage (by_starts core) 2 (codes "SUM") ≡ Some 1
  -- and by name to that of their line
  pub a_placed : (core : Core) → column_stage (by_names core) 0 (codes "A") ≡ Some 0
  pub b_placed : (core : Core) → column_stage (by_names core) 1 (codes "B") ≡ Some 1
  pub limit_placed : (core : Core) → row_stage (by_names core) 0 (codes "LIM1") ≡ Some 0
  pub need_placed : (core : Core) → row_stage (by_names core) 1 (codes "NEED") ≡ Some 1
  pub sum_placed : (core : Core) → row_stage (by_names core) 2 (codes "SUM") ≡ Some 1
  -- the file means a core
  pub a_core : (core : Core) × TextMeans mix core
