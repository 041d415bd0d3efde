-- BOUNDS: what each line sets.
use Prim.Native.String.{String}
use Rattle.std.specs.Prelude.{◌≡◌, ℕ, ◌*◌, ◌^◌, List, ◌++◌, Some, None, Result, Ok, Err, codes}
use Rattle.rationals.specs.Rational.{ℚ}
use Rattle.refusals.specs.Results.{unless_refused}
use Rattle.core_defs.specs.declared.bounds.ColumnBounds.{ColumnBounds}
use Rattle.core_defs.specs.declared.kinds.BoundKind.TheVariants as bounds
use Rattle.core_defs.specs.Bounds.{bound_kind, bounds_in}
use Rattle.smps_build.specs.Ends.{Interval}
use Rattle.worked_values.specs.Told.{whole_ℚ, minus_ℚ, lines_told, refused_behind}

-- a file with the columns A and B, up to the header BOUNDS
abbrev pub before_bounds : List ℕ
before_bounds = codes "ROWS\n N COST\nCOLUMNS\n A COST 1\n B COST 1\nBOUNDS\n"

abbrev pub both_bounds : ColumnBounds → Interval
both_bounds all = (all.lower, all.upper)

-- the bounds of the column A by the lines of a text
abbrev pub bounds_of_a : List ℕ → Interval
bounds_of_a text = both_bounds (bounds_in (lines_told text) (codes "A"))

-- the bounds of the column A behind a line of BOUNDS and earlier ones, or the number of the cause that refuses the line
abbrev pub column_behind : String → String → Result Interval ℕ
column_behind earlier line =
    unless_refused (refused_behind (before_bounds ++ codes earlier) line) (bounds_of_a (before_bounds ++ codes earlier ++ codes line))

-- between the first and the second; at least or at most so much; no bounds; refused
abbrev pub bounded_by : ℚ → ℚ → Result Interval ℕ
bounded_by low high = Ok (Some low, Some high)

abbrev pub at_least : ℚ → Result Interval ℕ
at_least low = Ok (Some low, None)

abbrev pub up_to : ℚ → Result Interval ℕ
up_to high = Ok (None, Some high)

abbrev pub unbounded : Result Interval ℕ
unbounded = Ok (None, None)

pub record BoundsAreAsDocumented : Type 0 where
  -- the kinds
  pub lower : bound_kind (codes "LO") ≡ Some bounds.Lower
  pub upper : bound_kind (codes "UP") ≡ Some bounds.Upper
  pub fixed : bound_kind (codes "FX") ≡ Some bounds.Fixed
  pub free : bound_kind (codes "FR") ≡ Some bounds.Free
  pub no_lower : bound_kind (codes "MI") ≡ Some bounds.NoLower
  pub no_upper : bound_kind (codes "PL") ≡ Some bounds.NoUpper
  pub binary : bound_kind (codes "BV") ≡ None
  pub integer_lower : bound_kind (codes "LI") ≡ None
  pub integer_upper : bound_kind (codes "UI") ≡ None
  pub small_letters : bound_kind (codes "up") ≡ None
  -- no line
  pub no_line : bounds_of_a before_bounds ≡ (Some (whole_ℚ 0), None)
  -- one line alone
  pub lo : column_behind "" " LO BND A 1" ≡ at_least (whole_ℚ 1)
  pub lo_none : column_behind "" " LO BND A -1E30" ≡ unbounded
  pub up : column_behind "" " UP BND A 5" ≡ bounded_by (whole_ℚ 0) (whole_ℚ 5)
  pub up_zero : column_behind "" " UP BND A 0" ≡ bounded_by (whole_ℚ 0) (whole_ℚ 0)
  pub up_none : column_behind "" " UP BND A 1E30" ≡ at_least (whole_ℚ 0)
  pub up_negative : column_behind "" " UP BND A -1" ≡ Err 23
  pub fx : column_behind "" " FX BND A 2" ≡ bounded_by (whole_ℚ 2) (whole_ℚ 2)
  pub fr : column_behind "" " FR BND A" ≡ unbounded
  pub mi : column_behind "" " MI BND A" ≡ unbounded
  pub pl : column_behind "" " PL BND A" ≡ at_least (whole_ℚ 0)
  -- behind another line, ` UP BND A -1`
  pub behind_lo : column_behind " LO BND A -5\n" " UP BND A -1" ≡ bounded_by (minus_ℚ 5) (minus_ℚ 1)
  pub behind_lo_zero : column_behind " LO BND A 0\n" " UP BND A -1" ≡ Err 22
  pub behind_fx : column_behind " FX BND A 2\n" " UP BND A -1" ≡ Err 22
  pub behind_fr : column_behind " FR BND A\n" " UP BND A -1" ≡ up_to (minus_ℚ 1)
  pub behind_mi : column_behind " MI BND A\n" " UP BND A -1" ≡ up_to (minus_ℚ 1)
  pub behind_pl : column_behind " PL BND A\n" " UP BND A -1" ≡ Err 23
  pub behind_up : column_behind " UP BND A 5\n" " UP BND A -1" ≡ Err 23
  -- a value of at most -1E30, and of at least 1E30, means none; of LO and UP alone
  pub lo_beyond : column_behind "" " LO BND A -2E30" ≡ unbounded
  pub lo_within : column_behind "" " LO BND A -9.99E29" ≡ at_least (minus_ℚ (999 * 10 ^ 27))
  pub lo_high : column_behind "" " LO BND A 1E30" ≡ at_least (whole_ℚ (10 ^ 30))
  pub up_beyond : column_behind "" " UP BND A 2E30" ≡ at_least (whole_ℚ 0)
  pub up_within : column_behind "" " UP BND A 9.99E29" ≡ bounded_by (whole_ℚ 0) (whole_ℚ (999 * 10 ^ 27))
  pub up_low : column_behind " FR BND A\n" " UP BND A -1E30" ≡ up_to (minus_ℚ (10 ^ 30))
  pub fx_high : column_behind "" " FX BND A 1E30" ≡ bounded_by (whole_ℚ (10 ^ 30)) (whole_ℚ (10 ^ 30))
  pub fx_low : column_behind "" " FX BND A -1E30" ≡ bounded_by (minus_ℚ (10 ^ 30)) (minus_ℚ (10 ^ 30))
  -- without a set name
  pub lo_plain : column_behind "" " LO A 1" ≡ at_least (whole_ℚ 1)
  pub up_plain : column_behind "" " UP A 5" ≡ bounded_by (whole_ℚ 0) (whole_ℚ 5)
  pub fx_plain : column_behind "" " FX A 2" ≡ bounded_by (whole_ℚ 2) (whole_ℚ 2)
  pub fr_plain : column_behind "" " FR A" ≡ unbounded
  pub mi_plain : column_behind " UP A 5\n" " MI A" ≡ up_to (whole_ℚ 5)
  pub pl_plain : column_behind " UP A 5\n" " PL A" ≡ at_least (whole_ℚ 0)
  -- of FR, MI and PL a fourth field is skipped
  pub fr_skips : column_behind "" " FR BND A x" ≡ unbounded
  pub mi_skips : column_behind "" " MI BND A x" ≡ unbounded
  pub pl_skips : column_behind "" " PL BND A x" ≡ at_least (whole_ℚ 0)
  -- other numbers of fields
  pub lo_two : column_behind "" " LO A" ≡ Err 18
  pub lo_five : column_behind "" " LO BND A 1 2" ≡ Err 18
  pub up_two : column_behind "" " UP A" ≡ Err 18
  pub up_five : column_behind "" " UP BND A 1 2" ≡ Err 18
  pub fx_two : column_behind "" " FX A" ≡ Err 18
  pub fx_five : column_behind "" " FX BND A 1 2" ≡ Err 18
  pub fr_one : column_behind "" " FR" ≡ Err 18
  pub fr_five : column_behind "" " FR BND A 1 2" ≡ Err 18
  pub mi_one : column_behind "" " MI" ≡ Err 18
  pub mi_five : column_behind "" " MI BND A 1 2" ≡ Err 18
  pub pl_one : column_behind "" " PL" ≡ Err 18
  pub pl_five : column_behind "" " PL BND A 1 2" ≡ Err 18
  -- the set of the first line is used, and lines without a set name are a set of their own
  pub other_set : column_behind " UP BND A 5\n" " UP OTHER A 7" ≡ bounded_by (whole_ℚ 0) (whole_ℚ 5)
  pub other_unknown : column_behind " UP BND A 5\n" " UP OTHER Q x" ≡ bounded_by (whole_ℚ 0) (whole_ℚ 5)
  pub set_without_name : column_behind " UP A 5\n" " UP BND A 7" ≡ bounded_by (whole_ℚ 0) (whole_ℚ 5)
  pub name_left_out : column_behind " UP BND A 5\n" " UP A 7" ≡ bounded_by (whole_ℚ 0) (whole_ℚ 5)
  pub other_fields : column_behind " UP BND A 5\n" " UP OTHER A 7 8" ≡ Err 18
  pub other_kind : column_behind " UP BND A 5\n" " BV OTHER A" ≡ Err 21
  -- lines of another column set nothing of this one
  pub other_column : column_behind " UP BND A 5\n" " FR BND B" ≡ bounded_by (whole_ℚ 0) (whole_ℚ 5)
  -- the lower bound is above the upper
  pub lo_crosses : column_behind " UP BND A 5\n" " LO BND A 6" ≡ Err 22
  pub up_crosses : column_behind " LO BND A 6\n" " UP BND A 5" ≡ Err 22
  pub equal_fits : column_behind " UP BND A 5\n" " LO BND A 5" ≡ bounded_by (whole_ℚ 5) (whole_ℚ 5)
