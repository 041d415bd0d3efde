-- Whole files: the first one of the document, and which line of a file is at fault where a section is missing.
use Prim.Native.String.{String}
use Rattle.std.specs.Prelude.{◌≡◌, ℕ, pos, List, [], ◌∷◌, ◌++◌, Some, None, Result, Ok, codes}
use Rattle.rationals.specs.Rational.{ℚ, ◌÷◌}
use Rattle.rationals.specs.Passes.{Operation}
use Rattle.smps_words.specs.Line.{reading_of}
use Rattle.smps_words.specs.declared.row_kind.RowKind.{RowKind}
use Rattle.smps_words.specs.declared.row_kind.RowKind.TheVariants.{Less, Greater}
use Rattle.refusals.specs.declared.cause.Cause.{Cause}
use Rattle.refusals.specs.declared.cause.Cause.TheVariants as cause
use Rattle.reader_defs.specs.Reader.{IsFault}
use Rattle.core_defs.specs.Stated.{free_rows, constraints, constraint_kinds, columns, entry_in, rhs_in, range_in}
use Rattle.core_defs.specs.Bounds.{bounds_in}
use Rattle.core_defs.specs.Fault.{core_file, IsCoreFile}
use Rattle.smps_build.specs.Ends.{Interval, interval_walk}
use Rattle.worked_values.specs.Told.{whole_ℚ, minus_ℚ, lines_told}
use Rattle.worked_values.specs.BoundValues.{both_bounds}

abbrev pub whole_file : List ℕ
whole_file =
    codes "NAME MIX\nROWS\n N COST\n L LIM1\n L LIM2\n G NEED\n"
    ++ codes "COLUMNS\n A COST -3 LIM1 1\n A LIM2 1 NEED 1\n B COST -2 LIM1 1\n B LIM2 3\n"
    ++ codes "RHS\n RHS LIM1 4 LIM2 6\n RHS NEED 1\nRANGES\n RNG LIM1 3\nBOUNDS\n UP BND B 5/2\nENDATA\n"

abbrev pub entry_stated : String → String → ℚ
entry_stated column row = entry_in (lines_told whole_file) (codes column) (codes row)

-- the interval of a constraint of this kind
abbrev pub interval_stated : RowKind → String → Result Interval Operation
interval_stated kind row = interval_walk kind (rhs_in (lines_told whole_file) (codes row)) (range_in (lines_told whole_file) (codes row))

abbrev pub bounds_stated : String → Interval
bounds_stated column = both_bounds (bounds_in (lines_told whole_file) (codes column))

-- what the file says
pub record TheFileSays : Type 0 where
  pub is_read : IsCoreFile (lines_told whole_file)
  pub objective : free_rows (lines_told whole_file) ≡ codes "COST" ∷ []
  pub rows : constraints (lines_told whole_file) ≡ codes "LIM1" ∷ codes "LIM2" ∷ codes "NEED" ∷ []
  pub kinds : constraint_kinds (lines_told whole_file) ≡ Less ∷ Less ∷ Greater ∷ []
  pub named : columns (lines_told whole_file) ≡ codes "A" ∷ codes "B" ∷ []
  -- -3 A - 2 B is the cost
  pub cost_a : entry_stated "A" "COST" ≡ minus_ℚ 3
  pub cost_b : entry_stated "B" "COST" ≡ minus_ℚ 2
  -- A + B lies between 1 and 4
  pub first_a : entry_stated "A" "LIM1" ≡ whole_ℚ 1
  pub first_b : entry_stated "B" "LIM1" ≡ whole_ℚ 1
  pub first_ends : interval_stated Less "LIM1" ≡ Ok (Some (whole_ℚ 1), Some (whole_ℚ 4))
  -- A + 3 B is at most 6
  pub second_a : entry_stated "A" "LIM2" ≡ whole_ℚ 1
  pub second_b : entry_stated "B" "LIM2" ≡ whole_ℚ 3
  pub second_ends : interval_stated Less "LIM2" ≡ Ok (None, Some (whole_ℚ 6))
  -- A is at least 1
  pub third_a : entry_stated "A" "NEED" ≡ whole_ℚ 1
  pub third_b : entry_stated "B" "NEED" ≡ whole_ℚ 0
  pub third_ends : interval_stated Greater "NEED" ≡ Ok (Some (whole_ℚ 1), None)
  -- A and B are at least 0, and B is at most 5/2
  pub bounds_a : bounds_stated "A" ≡ (Some (whole_ℚ 0), None)
  pub bounds_b : bounds_stated "B" ≡ (Some (whole_ℚ 0), Some (pos 5 ÷ 2))

-- the line with this number is at fault, for this cause
abbrev pub IsAtFault : String → ℕ → Cause → Type 0
IsAtFault text line why =
    IsFault core_file (lines_told (codes text)) (reading_of 0 (codes text)).end_line (record { line = line; cause = why })

-- A missing section is looked for last, and named at the line behind the last of the whole text.
pub record MissingSectionsAreTold : Type 0 where
  pub empty : IsAtFault "" 1 cause.SectionMissing
  pub no_end : IsAtFault "NAME COVER\nROWS\n N COST\nCOLUMNS\n X COST 1\n" 6 cause.SectionMissing
  -- also where text follows ENDATA
  pub no_columns : IsAtFault "ROWS\n N COST\nENDATA\nSOUP\n" 5 cause.SectionMissing
  -- where ENDATA is missing all lines are looked at first, and where COLUMNS is missing those of the later sections
  pub line_first : IsAtFault "ROWS\n N COST\nCOLUMNS\n X COST x\n" 4 cause.NumberBad
  pub later_section : IsAtFault "ROWS\n N COST\nRHS\n COST x\nENDATA\n" 4 cause.NumberBad
  -- where ROWS is missing the line COLUMNS is at fault; where both are missing the cause is 12 again
  pub no_rows : IsAtFault "NAME MIX\n\nCOLUMNS\n X COST 1\nENDATA\n" 3 cause.NoObjective
  pub neither : IsAtFault "NAME MIX\nENDATA\n" 3 cause.SectionMissing
