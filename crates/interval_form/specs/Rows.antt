-- The own rows of a program at given values of the columns that aren't its own, operation by operation.
use Rattle.std.specs.Prelude.{ℕ, List, [], ◌∷◌, ◌++◌, Option, Some, None, Ok, take, drop}
use Rattle.rationals.specs.declared.Op.{Op}
use Rattle.rationals.specs.declared.Op.TheVariants.{Sub}
use Rattle.rationals.specs.Rational.{ℚ, one_ℚ}
use Rattle.rationals.specs.Order.{same}
use Rattle.rationals.specs.Passes.{sub_walk, step_walk, then_walk}
use Rattle.rationals.specs.Sparse.{Entry, coefficient}
use Rattle.rationals.specs.Forms.{IsForm}
use Rattle.rationals.specs.Totals.{sum_walk}
use Rattle.rationals.specs.Choices.{pick}
use Rattle.smps_words.specs.declared.row_kind.RowKind.{RowKind}
use Rattle.smps_words.specs.declared.row_kind.RowKind.TheVariants.{Less, Greater, Equal}
use Rattle.lp_defs.specs.Walks.{Walk}
use Rattle.slack_form.specs.declared.limits.Limit.{Limit}
use Rattle.scen_defs.specs.declared.program.NodeRow.{NodeRow}
use Rattle.cut_defs.specs.declared.datum.ColumnBounds.{ColumnBounds}
use Rattle.interval_form.specs.declared.part.Part.{Part}
use Rattle.interval_form.specs.Parts.{part_of, behind, entry, spread_form}
use Rattle.interval_form.specs.Own.{own_form, other_form}
use Rattle.interval_form.specs.Spans.{shift_at, limit_count, sum_first}

-- ---- right sides

-- s and, entry by entry, the entry times the value of its column, added or subtracted, each as a step
abbrev pub terms_walk : Op → (ℕ → ℚ) → ℚ → List Entry → Walk ℚ
terms_walk op x s [] = Ok s
terms_walk op x s (e ∷ f) = then_walk (step_walk op s e.value (x e.column)) (λ t. terms_walk op x t f)

-- s, then the terms of the columns that aren't own ones, then those of the shifts
abbrev pub right_walk : Op → List ColumnBounds → List Part → List Entry → ℚ → List Entry → Walk ℚ
right_walk op bs parts trial s f =
    then_walk (terms_walk op (coefficient trial) s (other_form bs f)) (λ t. terms_walk op (shift_at parts) t (own_form bs f))

-- ---- own rows

pub record HasForm (r : NodeRow) : Type 0 where
  pub form : IsForm r.entries

-- the limit of an end of this form
abbrev pub limit_walk : List ColumnBounds → List Part → List Entry → List Entry → RowKind → ℚ → Walk Limit
limit_walk bs parts trial f kind end = then_walk (right_walk Sub bs parts trial end f)
    (λ right. Ok (record { entries = spread_form parts (own_form bs f); kind = kind; right = right }))

-- the same behind the limits that are made
abbrev pub push_walk : List ColumnBounds → List Part → List Entry → List Entry → List Limit
    → RowKind → ℚ → Walk (List Limit)
push_walk bs parts trial f made kind end = then_walk (limit_walk bs parts trial f kind end) (λ limit. Ok (made ++ limit ∷ []))

-- of a row: one equation where its ends are equal, else one limit for each end, the low one first
abbrev pub ends_walk : List ColumnBounds → List Part → List Entry → List Entry → List Limit
    → Option ℚ → Option ℚ → Walk (List Limit)
ends_walk bs parts trial f made None None = Ok made
ends_walk bs parts trial f made (Some low) None = push_walk bs parts trial f made Greater low
ends_walk bs parts trial f made None (Some high) = push_walk bs parts trial f made Less high
ends_walk bs parts trial f made (Some low) (Some high) = pick (same low high)
    (push_walk bs parts trial f made Equal low)
    (then_walk (push_walk bs parts trial f made Greater low) (λ more. push_walk bs parts trial f more Less high))

abbrev pub own_limits_from : List ColumnBounds → List Part → List Entry → List Limit → List NodeRow → Walk (List Limit)
own_limits_from bs parts trial made [] = Ok made
own_limits_from bs parts trial made (r ∷ rs) =
    then_walk (ends_walk bs parts trial r.entries made r.low r.high) (λ more. own_limits_from bs parts trial more rs)

-- ---- bounds

-- a column with two bounds has a new column that is at most their difference
abbrev pub bound_walk : ℕ → List Limit → Option ℚ → Option ℚ → Walk (List Limit)
bound_walk m made None upper = Ok made
bound_walk m made (Some low) None = Ok made
bound_walk m made (Some low) (Some high) =
    then_walk (sub_walk high low) (λ width. Ok (made ++ record { entries = entry m one_ℚ ∷ []; kind = Less; right = width } ∷ []))

-- the new columns begin at m
abbrev pub bound_limits_from : ℕ → List Limit → List ColumnBounds → Walk (List Limit)
bound_limits_from m made [] = Ok made
bound_limits_from m made (b ∷ bs) =
    then_walk (bound_walk m made b.lower b.upper) (λ more. bound_limits_from (behind (part_of m b.lower b.upper)) more bs)

-- ---- multipliers

-- a row's multiplier is the sum of those of its limits
abbrev pub own_from : List ℚ → List NodeRow → List ℚ → Walk (List ℚ)
own_from made [] duals = Ok made
own_from made (r ∷ rs) duals =
    then_walk (sum_walk (take (limit_count r.low r.high) duals))
    (λ y. own_from (made ++ y ∷ []) rs (drop (limit_count r.low r.high) duals))

abbrev pub own_walk : List NodeRow → List ℚ → Walk (List ℚ)
own_walk = own_from []

-- the multipliers behind those of the own rows
abbrev pub behind_own : List NodeRow → List ℚ → List ℚ
behind_own [] w = w
behind_own (r ∷ rs) w = behind_own rs (drop (limit_count r.low r.high) w)

-- the same with no word of operations
abbrev pub row_sums : List NodeRow → List ℚ → List ℚ
row_sums [] w = []
row_sums (r ∷ rs) w = sum_first (limit_count r.low r.high) w ∷ row_sums rs (drop (limit_count r.low r.high) w)

abbrev pub row_numbers : List NodeRow → List ℕ
row_numbers [] = []
row_numbers (r ∷ rs) = r.row ∷ row_numbers rs
