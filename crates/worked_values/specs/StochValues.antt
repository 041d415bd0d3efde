-- Stoch files: sections, what a stated value does, and the entries that a column and a row name.
use Rattle.std.specs.Prelude.{◌≡◌, ℕ, ◌-◌, ◌^◌, true, false, List, [], ◌∷◌, Some, None, Ok, Err, codes}
use Rattle.rationals.specs.declared.Op.TheVariants.{Add}
use Rattle.rationals.specs.Rational.{ℚ, ◌+ℚ◌, ◌*ℚ◌}
use Rattle.smps_words.specs.declared.entry.Entry.TheVariants.{Cost, Matrix, Rhs}
use Rattle.refusals.specs.declared.cause.Cause.TheVariants.{Passes}
use Rattle.core_defs.specs.declared.program.Core.{Core}
use Rattle.core_defs.specs.Means.{TextMeans}
use Rattle.time_defs.specs.Means.{Stages}
use Rattle.stoch_defs.specs.declared.section.StochSection.TheVariants as section
use Rattle.stoch_defs.specs.declared.section.Mode.TheVariants as mode
use Rattle.stoch_defs.specs.Section.{section_of, mode_word, mode_of}
use Rattle.stoch_defs.specs.Entries.{entry_of, core_value, stage_of, is_late}
use Rattle.stoch_defs.specs.Means.{result_of}
use Rattle.stoch_defs.specs.Step.{resulting}
use Rattle.worked_values.specs.Told.{whole_ℚ, minus_ℚ}
use Rattle.worked_values.specs.TimeValues.{mix}

pub record StochSectionsAreAsDocumented : Type 0 where
  -- the words of headers
  pub stoch : section_of (codes "STOCH") ≡ Some section.Stoch
  pub indep : section_of (codes "INDEP") ≡ Some section.Indep
  pub blocks : section_of (codes "BLOCKS") ≡ Some section.Blocks
  pub scenarios : section_of (codes "SCENARIOS") ≡ Some section.Scenarios
  pub end : section_of (codes "ENDATA") ≡ Some section.End
  pub nodes : section_of (codes "NODES") ≡ None
  pub chance : section_of (codes "CHANCE") ≡ None
  pub small_letters : section_of (codes "indep") ≡ None
  -- the third word
  pub replace : mode_word (codes "REPLACE") ≡ Some mode.Replace
  pub add : mode_word (codes "ADD") ≡ Some mode.Add
  pub multiply : mode_word (codes "MULTIPLY") ≡ Some mode.Multiply
  pub other : mode_word (codes "SUBTRACT") ≡ None
  -- the second is DISCRETE or absent, and the third stands behind it alone; there is no fourth
  pub no_words : mode_of (codes "INDEP" ∷ []) ≡ Some mode.Replace
  pub discrete : mode_of (codes "INDEP" ∷ codes "DISCRETE" ∷ []) ≡ Some mode.Replace
  pub discrete_replace : mode_of (codes "BLOCKS" ∷ codes "DISCRETE" ∷ codes "REPLACE" ∷ []) ≡ Some mode.Replace
  pub discrete_add : mode_of (codes "BLOCKS" ∷ codes "DISCRETE" ∷ codes "ADD" ∷ []) ≡ Some mode.Add
  pub discrete_multiply : mode_of (codes "SCENARIOS" ∷ codes "DISCRETE" ∷ codes "MULTIPLY" ∷ []) ≡ Some mode.Multiply
  pub not_discrete : mode_of (codes "INDEP" ∷ codes "NORMAL" ∷ []) ≡ None
  pub add_alone : mode_of (codes "INDEP" ∷ codes "ADD" ∷ []) ≡ None
  pub third_unknown : mode_of (codes "INDEP" ∷ codes "DISCRETE" ∷ codes "SUBTRACT" ∷ []) ≡ None
  pub fourth : mode_of (codes "INDEP" ∷ codes "DISCRETE" ∷ codes "ADD" ∷ codes "P2" ∷ []) ≡ None
  -- the value of the entry is the stated one, the base plus it, or the base times it
  pub replaced : (base value : ℚ) → result_of mode.Replace base value ≡ value
  pub added : (base value : ℚ) → result_of mode.Add base value ≡ base +ℚ value
  pub multiplied : (base value : ℚ) → result_of mode.Multiply base value ≡ base *ℚ value
  pub four_replaced : resulting mode.Replace (whole_ℚ 4) (minus_ℚ 3) ≡ Ok (minus_ℚ 3)
  pub four_added : resulting mode.Add (whole_ℚ 4) (minus_ℚ 3) ≡ Ok (whole_ℚ 1)
  pub four_multiplied : resulting mode.Multiply (whole_ℚ 4) (minus_ℚ 3) ≡ Ok (minus_ℚ 12)
  -- one that doesn't fit into 128 bits: the operation is named
  pub passing : resulting mode.Add (whole_ℚ (2 ^ 127 - 1)) (whole_ℚ 1)
      ≡ Err (Passes (record { op = Add; a = whole_ℚ (2 ^ 127 - 1); b = whole_ℚ 1 }))

-- a core file with a column that is named RHS
abbrev pub column_rhs : List ℕ
column_rhs = codes "ROWS\n N COST\n L LIM1\nCOLUMNS\n RHS LIM1 1\nENDATA\n"

-- A, LIM1 and the objective are of the first period, B, NEED and SUM of the second
abbrev pub two_periods : Stages
two_periods = record { names = codes "P1" ∷ codes "P2" ∷ []; columns = 0 ∷ 1 ∷ []; rows = 0 ∷ 1 ∷ 1 ∷ [] }

-- of each core that the file means: the columns A and B, the constraints LIM1, NEED and SUM, the set NOW of right-hand sides
pub record EntriesAreAsDocumented : Type 0 where
  -- a column and the objective are a cost, a column and a constraint an entry, whether the core has one there or not
  pub cost : (core : Core) → TextMeans mix core → entry_of core (codes "A") (codes "COST") ≡ Some (Cost 0)
  pub second_cost : (core : Core) → TextMeans mix core → entry_of core (codes "B") (codes "COST") ≡ Some (Cost 1)
  pub entry : (core : Core) → TextMeans mix core → entry_of core (codes "B") (codes "SUM") ≡ Some (Matrix 2 1)
  pub absent_entry : (core : Core) → TextMeans mix core → entry_of core (codes "A") (codes "SUM") ≡ Some (Matrix 2 0)
  -- RHS, or the name of the set, and a constraint are a right-hand side
  pub rhs : (core : Core) → TextMeans mix core → entry_of core (codes "RHS") (codes "LIM1") ≡ Some (Rhs 0)
  pub named_rhs : (core : Core) → TextMeans mix core → entry_of core (codes "NOW") (codes "NEED") ≡ Some (Rhs 1)
  pub other_set : (core : Core) → TextMeans mix core → entry_of core (codes "LATER") (codes "LIM1") ≡ None
  -- unless a column has that name
  pub column_first : (core : Core) → TextMeans column_rhs core → entry_of core (codes "RHS") (codes "LIM1") ≡ Some (Matrix 0 0)
  -- what isn't there, and rows that are no constraints
  pub column_unknown : (core : Core) → TextMeans mix core → entry_of core (codes "C") (codes "LIM1") ≡ None
  pub row_unknown : (core : Core) → TextMeans mix core → entry_of core (codes "A") (codes "LIM2") ≡ None
  pub row_skipped : (core : Core) → TextMeans mix core → entry_of core (codes "B") (codes "WEIGHT") ≡ None
  pub rhs_of_objective : (core : Core) → TextMeans mix core → entry_of core (codes "RHS") (codes "COST") ≡ None
  -- the core's value; one that isn't there is 0
  pub cost_value : (core : Core) → TextMeans mix core → core_value core (Cost 0) ≡ minus_ℚ 3
  pub no_cost : (core : Core) → TextMeans mix core → core_value core (Cost 1) ≡ whole_ℚ 0
  pub entry_value : (core : Core) → TextMeans mix core → core_value core (Matrix 2 1) ≡ whole_ℚ 25
  pub no_entry : (core : Core) → TextMeans mix core → core_value core (Matrix 2 0) ≡ whole_ℚ 0
  pub zero_entry : (core : Core) → TextMeans mix core → core_value core (Matrix 1 1) ≡ whole_ℚ 0
  pub rhs_value : (core : Core) → TextMeans mix core → core_value core (Rhs 1) ≡ whole_ℚ 4
  pub no_rhs : (core : Core) → TextMeans column_rhs core → core_value core (Rhs 0) ≡ whole_ℚ 0
  -- the period of an entry is that of its row, for a cost that of its column
  pub first_cost_period : stage_of two_periods (Cost 0) ≡ 0
  pub second_cost_period : stage_of two_periods (Cost 1) ≡ 1
  pub row_period : stage_of two_periods (Matrix 1 0) ≡ 1
  pub rhs_period : stage_of two_periods (Rhs 0) ≡ 0
  pub later_rhs_period : stage_of two_periods (Rhs 2) ≡ 1
  -- no column of a later period than the row
  pub earlier_column : is_late two_periods (Matrix 1 0) ≡ false
  pub later_column : is_late two_periods (Matrix 0 1) ≡ true
  -- the second file means a core, as the first does
  pub a_core : (core : Core) × TextMeans column_rhs core
