-- What the lines of BOUNDS state: kind, optional set name, column, value.
use Rattle.std.specs.Prelude.{ℕ, pos, ◌^◌, Bool, true, false, List, [], ◌∷◌, Option, Some, None, not, codes, flat_map, filter}
use Rattle.std.specs.Prelude.{if◌then◌else◌}
use Rattle.std.specs.Ordering.{is_gt}
use Rattle.rationals.specs.Rational.{ℚ, zero_ℚ, neg_ℚ, ◌÷◌}
use Rattle.rationals.specs.Order.{compare}
use Rattle.smps_words.specs.Line.{TextLine}
use Rattle.smps_words.specs.Names.{same_name}
use Rattle.core_defs.specs.declared.bounds.ColumnBounds.{ColumnBounds}
use Rattle.core_defs.specs.declared.kinds.BoundKind.{BoundKind}
use Rattle.core_defs.specs.declared.kinds.BoundKind.TheVariants as bounds
use Rattle.core_defs.specs.declared.section.Section.TheVariants as sections
use Rattle.core_defs.specs.Lines.{data_of}
use Rattle.core_defs.specs.Stated.{number_in, same_set, chosen}

abbrev pub bound_kind : List ℕ → Option BoundKind
bound_kind word =
    if same_name word (codes "LO") then Some bounds.Lower
    else (if same_name word (codes "UP") then Some bounds.Upper
    else (if same_name word (codes "FX") then Some bounds.Fixed
    else (if same_name word (codes "FR") then Some bounds.Free
    else (if same_name word (codes "MI") then Some bounds.NoLower
    else (if same_name word (codes "PL") then Some bounds.NoUpper else None)))))

-- a line of BOUNDS
pub record Bound : Type 0 where
  pub kind : BoundKind
  pub set : Option (List ℕ)
  pub column : List ℕ
  pub word : List ℕ

-- LO, UP and FX have a value; FR, MI and PL have none
abbrev pub has_value : BoundKind → Bool
has_value bounds.Lower = true
has_value bounds.Upper = true
has_value bounds.Fixed = true
has_value bounds.Free = false
has_value bounds.NoLower = false
has_value bounds.NoUpper = false

abbrev pub with_word : BoundKind → List (List ℕ) → List Bound
with_word kind (column ∷ word ∷ []) = record { kind = kind; set = None; column = column; word = word } ∷ []
with_word kind (set ∷ column ∷ word ∷ []) = record { kind = kind; set = Some set; column = column; word = word } ∷ []
with_word kind [] = []
with_word kind (_ ∷ []) = []
with_word kind (_ ∷ _ ∷ _ ∷ _ ∷ _) = []

-- a fourth field is skipped
abbrev pub without_word : BoundKind → List (List ℕ) → List Bound
without_word kind (column ∷ []) = record { kind = kind; set = None; column = column; word = [] } ∷ []
without_word kind (set ∷ column ∷ []) = record { kind = kind; set = Some set; column = column; word = [] } ∷ []
without_word kind (set ∷ column ∷ _ ∷ []) = record { kind = kind; set = Some set; column = column; word = [] } ∷ []
without_word kind [] = []
without_word kind (_ ∷ _ ∷ _ ∷ _ ∷ _) = []

abbrev pub bound_of : Option BoundKind → List (List ℕ) → List Bound
bound_of None rest = []
bound_of (Some kind) rest = if has_value kind then with_word kind rest else without_word kind rest

abbrev pub bound_on : List (List ℕ) → List Bound
bound_on [] = []
bound_on (word ∷ rest) = bound_of (bound_kind word) rest

abbrev pub bounds_on : List TextLine → List Bound
bounds_on lines = flat_map bound_on (data_of sections.Bounds lines)

-- the set of the first line, where there is one
abbrev pub first_bound_set : List Bound → Option (Option (List ℕ))
first_bound_set [] = None
first_bound_set (bound ∷ _) = Some bound.set

-- the lines of that set
abbrev pub bounds_used : List Bound → List Bound
bounds_used all = filter (λ bound. same_set (chosen (first_bound_set all) bound.set) bound.set) all

-- ten to the thirtieth, which stands for no bound
abbrev pub infinite : ℚ
infinite = pos (10 ^ 30) ÷ 1

abbrev pub is_at_most : ℚ → ℚ → Bool
is_at_most one other = not (is_gt (compare one other))

-- a line sets one bound or both; LO, FX, FR and MI state the lower one
abbrev pub bounded : ColumnBounds → BoundKind → ℚ → ColumnBounds
bounded old bounds.Lower value = record {
  lower = (if is_at_most value (neg_ℚ infinite) then None else Some value);
  upper = old.upper;
  stated = true;
}
bounded old bounds.Upper value = record old { upper = (if is_at_most infinite value then None else Some value) }
bounded old bounds.Fixed value = record { lower = Some value; upper = Some value; stated = true }
bounded old bounds.Free value = record { lower = None; upper = None; stated = true }
bounded old bounds.NoLower value = record { lower = None; upper = old.upper; stated = true }
bounded old bounds.NoUpper value = record old { upper = None }

-- the lines that name the column set its bounds, one after another
abbrev pub bounds_after : ColumnBounds → List ℕ → List Bound → ColumnBounds
bounds_after old column [] = old
bounds_after old column (bound ∷ rest) = bounds_after (if same_name column bound.column then bounded old bound.kind (number_in bound.word)
    else old) column rest

-- at first a column is at least 0 and has no upper bound
abbrev pub first_bounds : ColumnBounds
first_bounds = record { lower = Some zero_ℚ; upper = None; stated = false }

-- the bounds of a column by these lines
abbrev pub bounds_by : List Bound → List ℕ → ColumnBounds
bounds_by all column = bounds_after first_bounds column (bounds_used all)

abbrev pub bounds_in : List TextLine → List ℕ → ColumnBounds
bounds_in lines column = bounds_by (bounds_on lines) column

-- the lower bound is above the upper
abbrev pub crossed : Option ℚ → Option ℚ → Bool
crossed None upper = false
crossed (Some lower) None = false
crossed (Some lower) (Some upper) = is_gt (compare lower upper)
