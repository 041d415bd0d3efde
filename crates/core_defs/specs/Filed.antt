-- The lines of a core file, filed by section.
use Rattle.std.specs.Prelude.{ℕ, Bool, false, List, [], ◌∷◌, ◌++◌, Option, Some, None}
use Rattle.std.specs.Option.{unwrap_or}
use Rattle.rationals.specs.Rational.{ℚ, zero_ℚ}
use Rattle.rationals.specs.Sparse.{Entry}
use Rattle.rationals.specs.Forms.{find}
use Rattle.smps_words.specs.declared.row_kind.RowKind.{RowKind}
use Rattle.core_defs.specs.declared.bounds.ColumnBounds.{ColumnBounds}
use Rattle.core_defs.specs.declared.parts.ColumnPart.{ColumnPart}
use Rattle.core_defs.specs.declared.section.Section.{Section}
use Rattle.core_defs.specs.declared.section.Section.TheVariants as sections
use Rattle.core_defs.specs.Terms.{nonzero_terms}

pub record Filed : Type 0 where
  -- the section that the last header began
  pub section : Section
  -- COLUMNS was there
  pub has_columns : Bool
  -- the N rows, of which the first is the objective
  pub free : List (List ℕ)
  -- the constraints, and their kinds
  pub rows : List (List ℕ)
  pub kinds : List RowKind
  -- the columns in the order of their first lines
  pub names : List (List ℕ)
  -- what is stated of the columns before the last one
  pub parts : List ColumnPart
  -- the last column's values by the numbers of N rows, and by those of constraints; they may be 0
  pub costs : List Entry
  pub terms : List Entry
  -- the number of values of constraints that aren't 0
  pub entries : ℕ
  -- the set that RHS uses; the right-hand sides of the constraints and of the N rows, where they are stated
  pub rhs_set : Option (Option (List ℕ))
  pub rhs : List (Option ℚ)
  pub free_rhs : List (Option ℚ)
  -- the set that RANGES uses, and the ranges of the constraints
  pub range_set : Option (Option (List ℕ))
  pub ranges : List (Option ℚ)
  -- the set that BOUNDS uses, and the bounds of the columns
  pub bound_set : Option (Option (List ℕ))
  pub bounds : List ColumnBounds

abbrev pub nothing_filed : Filed
nothing_filed = record {
  section = sections.Start;
  has_columns = false;
  free = [];
  rows = [];
  kinds = [];
  names = [];
  parts = [];
  costs = [];
  terms = [];
  entries = 0;
  rhs_set = None;
  rhs = [];
  free_rhs = [];
  range_set = None;
  ranges = [];
  bound_set = None;
  bounds = [];
}

abbrev pub last_of : List (List ℕ) → Option (List ℕ)
last_of [] = None
last_of (name ∷ []) = Some name
last_of (_ ∷ name ∷ names) = last_of (name ∷ names)

-- the objective's value is the cost; what is 0 is no entry
abbrev pub part_of : List Entry → List Entry → ColumnPart
part_of costs terms = record { cost = unwrap_or (find costs 0) zero_ℚ; entries = nonzero_terms terms }

abbrev pub closed_at : Option (List ℕ) → Filed → Filed
closed_at None f = f
closed_at (Some name) f = record f { parts = f.parts ++ part_of f.costs f.terms ∷ []; costs = []; terms = [] }

-- the last column is whole
unfoldable pub closed : Filed → Filed
closed f = closed_at (last_of f.names) f
