-- Rows over the places of columns, each with an interval, as rows of three kinds over the new columns; with no word of operations.
use Rattle.std.specs.Prelude.{ℕ, List, [], ◌∷◌, ◌++◌, Option, Some, None, take, drop}
use Rattle.rationals.specs.Rational.{ℚ, zero_ℚ, one_ℚ, ◌+ℚ◌, ◌-ℚ◌, ◌*ℚ◌}
use Rattle.rationals.specs.Order.{same}
use Rattle.rationals.specs.Sums.{sum_ℚ}
use Rattle.rationals.specs.Sparse.{Entry, product, coefficient}
use Rattle.smps_words.specs.declared.row_kind.RowKind.{RowKind}
use Rattle.smps_words.specs.declared.row_kind.RowKind.TheVariants.{Less, Greater, Equal}
use Rattle.lp_defs.specs.Program.{IsFormBelow}
use Rattle.slack_form.specs.declared.limits.Limit.{Limit}
use Rattle.scen_defs.specs.Lists.{Each}
use Rattle.rationals.specs.Intervals.{InOrder}
use Rattle.rationals.specs.Choices.{pick}
use Rattle.scen_defs.specs.Ends.{IsGoodAt, worth}
use Rattle.cut_defs.specs.declared.datum.ColumnBounds.{ColumnBounds}
use Rattle.interval_form.specs.declared.part.Part.{Part}
use Rattle.interval_form.specs.Parts.{part_of, behind, part_at, shift, entry, spread_form}

-- a form over the places, whose value lies in an interval
pub record Span : Type 0 where
  pub entries : List Entry
  pub low : Option ℚ
  pub high : Option ℚ

-- over the places below n, with no low end above the high one
pub record IsSpan (n : ℕ) (s : Span) : Type 0 where
  pub entries : IsFormBelow n s.entries
  pub in_order : InOrder s.low s.high

abbrev pub AreSpans : ℕ → List Span → Type 0
AreSpans n = Each (IsSpan n)

-- ---- as rows of three kinds

abbrev pub shift_at : List Part → ℕ → ℚ
shift_at parts k = shift (part_at parts k)

abbrev pub limit_of : List Part → List Entry → RowKind → ℚ → Limit
limit_of parts f kind end = record { entries = spread_form parts f; kind = kind; right = end -ℚ product f (shift_at parts) }

-- one equation where the ends are equal, else one row for each end, the low one first
abbrev pub end_limits : List Part → List Entry → Option ℚ → Option ℚ → List Limit
end_limits parts f None None = []
end_limits parts f (Some low) None = limit_of parts f Greater low ∷ []
end_limits parts f None (Some high) = limit_of parts f Less high ∷ []
end_limits parts f (Some low) (Some high) = pick (same low high)
    (limit_of parts f Equal low ∷ [])
    (limit_of parts f Greater low ∷ limit_of parts f Less high ∷ [])

abbrev pub span_limits : List Part → List Span → List Limit
span_limits parts [] = []
span_limits parts (s ∷ ss) = end_limits parts s.entries s.low s.high ++ span_limits parts ss

abbrev pub width_limit : ℕ → ℚ → Limit
width_limit m width = record { entries = entry m one_ℚ ∷ []; kind = Less; right = width }

-- a column with two bounds has a new column that is at most their difference
abbrev pub bound_limit : ℕ → Option ℚ → Option ℚ → List Limit
bound_limit m None upper = []
bound_limit m (Some low) None = []
bound_limit m (Some low) (Some high) = width_limit m (high -ℚ low) ∷ []

abbrev pub bound_limits : ℕ → List ColumnBounds → List Limit
bound_limits m [] = []
bound_limits m (b ∷ bs) = bound_limit m b.lower b.upper ++ bound_limits (behind (part_of m b.lower b.upper)) bs

-- ---- multipliers of the rows, one in a list for each

-- so many rows of three kinds there are for a row with these ends
abbrev pub limit_count : Option ℚ → Option ℚ → ℕ
limit_count None None = 0
limit_count (Some low) None = 1
limit_count None (Some high) = 1
limit_count (Some low) (Some high) = pick (same low high) 1 2

-- the sum of the first numbers of w
abbrev pub sum_first : ℕ → List ℚ → ℚ
sum_first n w = sum_ℚ (λ (q : ℚ). q) (take n w)

-- a row's multiplier is the sum of those of its rows of three kinds
abbrev pub span_sums : List Span → List ℚ → List ℚ
span_sums [] w = []
span_sums (s ∷ ss) w = sum_first (limit_count s.low s.high) w ∷ span_sums ss (drop (limit_count s.low s.high) w)

-- those behind them
abbrev pub behind_spans : List Span → List ℚ → List ℚ
behind_spans [] w = w
behind_spans (s ∷ ss) w = behind_spans ss (drop (limit_count s.low s.high) w)

-- each multiplier uses a finite end
abbrev pub AreGood : List Span → List ℚ → Type 0
AreGood [] ys = Unit {0}
AreGood (s ∷ ss) [] = ⊥
AreGood (s ∷ ss) (y ∷ ys) = IsGoodAt s.low s.high y × AreGood ss ys

-- what they are worth, what they make of column k, and of numbers x
abbrev pub span_worth : List Span → List ℚ → ℚ
span_worth [] ys = zero_ℚ
span_worth (s ∷ ss) [] = zero_ℚ
span_worth (s ∷ ss) (y ∷ ys) = worth s.low s.high y +ℚ span_worth ss ys

abbrev pub span_column : List Span → List ℚ → ℕ → ℚ
span_column [] ys k = zero_ℚ
span_column (s ∷ ss) [] k = zero_ℚ
span_column (s ∷ ss) (y ∷ ys) k = coefficient s.entries k *ℚ y +ℚ span_column ss ys k

abbrev pub span_product : List Span → List ℚ → (ℕ → ℚ) → ℚ
span_product [] ys x = zero_ℚ
span_product (s ∷ ss) [] x = zero_ℚ
span_product (s ∷ ss) (y ∷ ys) x = product s.entries x *ℚ y +ℚ span_product ss ys x

-- the reduced cost at place k
abbrev pub reduced_at : List Entry → List Span → List ℚ → ℕ → ℚ
reduced_at f ss ys k = coefficient f k -ℚ span_column ss ys k
