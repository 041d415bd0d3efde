-- The points and rays of tableaus as forms: values put into their places, column by column.
use Rattle.std.specs.Prelude.{ℕ, ltb, List, [], ◌∷◌}
use Rattle.rationals.specs.Choices.{pick}
use Rattle.rationals.specs.Rational.{ℚ, one_ℚ, neg_ℚ}
use Rattle.rationals.specs.Sparse.{Entry}
use Rattle.lp_defs.specs.Tests.{is_zero}
use Rattle.lp_defs.specs.Lines.{value_at}
use Rattle.lp_defs.specs.Path.{Row}
use Rattle.lp_defs.specs.Trace.{NotIn}

-- an entry behind those of lesser columns
abbrev pub placed : ℕ → ℚ → List Entry → List Entry
placed c v [] = record { column = c; value = v } ∷ []
placed c v (d ∷ f) = pick (ltb d.column c) (d ∷ placed c v f) (record { column = c; value = v } ∷ d ∷ f)

abbrev pub placed_nonzero : ℕ → ℚ → List Entry → List Entry
placed_nonzero c v f = pick (is_zero v) f (placed c v f)

-- each row's basic column with the value that v tells
abbrev pub all_placed : (Row → ℚ) → List Row → List Entry → List Entry
all_placed v [] done = done
all_placed v (r ∷ rows) done = all_placed v rows (placed_nonzero r.basic (v r) done)

abbrev pub point_form : List Row → List Entry
point_form rows = all_placed (λ r. r.line.right) rows []

abbrev pub ray_form : ℕ → List Row → List Entry
ray_form j rows = all_placed (λ r. neg_ℚ (value_at r.line.entries j)) rows (record { column = j; value = one_ℚ } ∷ [])

-- no column is basic in two rows
abbrev pub BasicsDiffer : List Row → Type 0
BasicsDiffer [] = Unit {0}
BasicsDiffer (r ∷ rows) = NotIn r.basic rows × BasicsDiffer rows
