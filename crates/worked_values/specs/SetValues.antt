-- RHS and RANGES: which set is used, and the examples of the document.
use Prim.Native.String.{String}
use Rattle.std.specs.Prelude.{◌≡◌, ℕ, List, [], ◌∷◌, ◌++◌, Option, Some, None, codes}
use Rattle.rationals.specs.Rational.{ℚ}
use Rattle.core_defs.specs.Stated.{rhs_in, range_in, rhs_set_in, set_on, name_of_set}
use Rattle.worked_values.specs.Told.{whole_ℚ, minus_ℚ, lines_told, refused_behind}
use Rattle.worked_values.specs.ColumnValues.{example_columns}

-- the example, with a line of a set that isn't used, and the same without a set name
abbrev pub named_rhs : List ℕ
named_rhs = example_columns ++ codes "RHS\n NOW LIM1 4 NEED 4\n NOW SUM 4\n LATER LIM1 9\n"

abbrev pub plain_rhs : List ℕ
plain_rhs = example_columns ++ codes "RHS\n LIM1 4 NEED 4\n SUM 4\n"

abbrev pub some_rhs : List ℕ
some_rhs = example_columns ++ codes "RHS\n LIM1 4\n NOW NEED 9\n COST 0 WEIGHT 5\n"

-- the right-hand side of a row behind a text
abbrev pub rhs_behind : List ℕ → String → ℚ
rhs_behind text row = rhs_in (lines_told text) (codes row)

pub record RightSidesAreAsDocumented : Type 0 where
  -- a line of two or four fields has no set name, one of three or five has one
  pub two_fields : set_on (codes "LIM1" ∷ codes "4" ∷ []) ≡ None
  pub three_fields : set_on (codes "NOW" ∷ codes "LIM1" ∷ codes "4" ∷ []) ≡ Some (codes "NOW")
  pub four_fields : set_on (codes "LIM1" ∷ codes "4" ∷ codes "NEED" ∷ codes "4" ∷ []) ≡ None
  pub five_fields : set_on (codes "NOW" ∷ codes "LIM1" ∷ codes "4" ∷ codes "NEED" ∷ codes "4" ∷ []) ≡ Some (codes "NOW")
  -- the set of the first line is used
  pub used : rhs_set_in (lines_told named_rhs) ≡ codes "NOW"
  -- a set without a name is named RHS, and so is that of a file without a line of RHS
  pub named : name_of_set (Some (Some (codes "NOW"))) ≡ codes "NOW"
  pub not_named : name_of_set (Some None) ≡ codes "RHS"
  pub no_set : name_of_set None ≡ codes "RHS"
  pub used_without_name : rhs_set_in (lines_told plain_rhs) ≡ codes "RHS"
  pub first_not_named : rhs_set_in (lines_told some_rhs) ≡ codes "RHS"
  pub header_alone : rhs_set_in (lines_told (example_columns ++ codes "RHS\nENDATA\n")) ≡ codes "RHS"
  pub no_section : rhs_set_in (lines_told (example_columns ++ codes "ENDATA\n")) ≡ codes "RHS"
  pub named_limit : rhs_behind named_rhs "LIM1" ≡ whole_ℚ 4
  pub named_need : rhs_behind named_rhs "NEED" ≡ whole_ℚ 4
  pub named_sum : rhs_behind named_rhs "SUM" ≡ whole_ℚ 4
  -- without a set name the same is said
  pub plain_limit : rhs_behind plain_rhs "LIM1" ≡ whole_ℚ 4
  pub plain_need : rhs_behind plain_rhs "NEED" ≡ whole_ℚ 4
  pub plain_sum : rhs_behind plain_rhs "SUM" ≡ whole_ℚ 4
  -- lines without a set name are a set of their own; an absent right-hand side is 0
  pub first_without_name : rhs_behind some_rhs "LIM1" ≡ whole_ℚ 4
  pub then_another_set : rhs_behind some_rhs "NEED" ≡ whole_ℚ 0
  pub absent : rhs_behind some_rhs "SUM" ≡ whole_ℚ 0
  pub behind_named : refused_behind named_rhs " LIM1 9" ≡ None
  pub no_lines : rhs_behind example_columns "LIM1" ≡ whole_ℚ 0
  -- lines of another set are only looked at for their number of fields
  pub other_twice : refused_behind named_rhs " LATER LIM1 9" ≡ None
  pub other_unknown : refused_behind named_rhs " LATER LIM2 x" ≡ None
  pub other_fields : refused_behind named_rhs " LATER LIM1 9 NEED 9 SUM" ≡ Some 18
  pub one_field : refused_behind named_rhs " NOW" ≡ Some 18
  -- the objective has the right-hand side 0 or none; one on a skipped N row is read
  pub objective_zero : refused_behind named_rhs " NOW COST 0" ≡ None
  pub objective_other : refused_behind named_rhs " NOW COST 1" ≡ Some 25
  pub skipped : refused_behind named_rhs " NOW WEIGHT 5" ≡ None
  -- what is refused in the set that is used
  pub twice : refused_behind named_rhs " NOW LIM1 4" ≡ Some 17
  pub row_unknown : refused_behind named_rhs " NOW LIM2 4" ≡ Some 15
  pub no_number : refused_behind named_rhs " NOW COST x" ≡ Some 19
  pub wide_number : refused_behind named_rhs " NOW COST 1E39" ≡ Some 20

abbrev pub named_ranges : List ℕ
named_ranges = named_rhs ++ codes "RANGES\n RNG LIM1 3 NEED 3\n RNG SUM -3\n OTHER LIM1 5\n"

abbrev pub plain_ranges : List ℕ
plain_ranges = example_columns ++ codes "RANGES\n LIM1 3\n RNG NEED 3\n"

-- the range of a row behind a text
abbrev pub range_behind : List ℕ → String → Option ℚ
range_behind text row = range_in (lines_told text) (codes row)

pub record RangesAreAsDocumented : Type 0 where
  pub limit : range_behind named_ranges "LIM1" ≡ Some (whole_ℚ 3)
  pub need : range_behind named_ranges "NEED" ≡ Some (whole_ℚ 3)
  pub sum : range_behind named_ranges "SUM" ≡ Some (minus_ℚ 3)
  pub absent : range_behind named_rhs "LIM1" ≡ None
  -- the set is chosen as for RHS, and apart from it
  pub first_without_name : range_behind plain_ranges "LIM1" ≡ Some (whole_ℚ 3)
  pub then_another_set : range_behind plain_ranges "NEED" ≡ None
  pub other_unknown : refused_behind named_ranges " OTHER LIM2 x" ≡ None
  pub other_fields : refused_behind named_ranges " OTHER LIM1 5 NEED 5 SUM" ≡ Some 18
  pub one_field : refused_behind named_ranges " RNG" ≡ Some 18
  -- a range gives a constraint a second end, and no other row
  pub objective : refused_behind named_ranges " RNG COST 3" ≡ Some 27
  pub skipped : refused_behind named_ranges " RNG WEIGHT 3" ≡ Some 27
  pub twice : refused_behind named_ranges " RNG LIM1 3" ≡ Some 17
  pub row_unknown : refused_behind named_ranges " RNG LIM2 3" ≡ Some 15
  pub no_number : refused_behind plain_ranges " SUM x" ≡ Some 19
  pub wide_number : refused_behind plain_ranges " SUM 1E39" ≡ Some 20
