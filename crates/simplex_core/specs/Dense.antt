-- A form as its numbers by column, with a place for each column, and rows that are taken away from it.
use Rattle.std.specs.Prelude.{ℕ, suc, true, false, List, [], ◌∷◌, Ok, slice_index_or, slice_set}
use Rattle.rationals.specs.Rational.{ℚ, zero_ℚ, one_ℚ}
use Rattle.rationals.specs.Passes.{less_product_walk, then_walk}
use Rattle.rationals.specs.Sparse.{Entry}
use Rattle.lp_defs.specs.Tests.{is_zero}
use Rattle.lp_defs.specs.Walks.{Walk}
use Rattle.lp_defs.specs.Path.{Row}

-- the numbers of column j and those behind it as entries; those that are 0 are left out
abbrev pub gathered : ℕ → List ℚ → List Entry
gathered j [] = []
gathered j (v ∷ vs) = elim (is_zero v) [
  | true ↦ gathered (suc j) vs
  | false ↦ record { column = j; value = v } ∷ gathered (suc j) vs
]

-- the numbers, of which that of one column is less v: a step
abbrev pub less_at : List ℚ → ℕ → ℚ → Walk (List ℚ)
less_at vs c v = then_walk (less_product_walk (slice_index_or vs c zero_ℚ) one_ℚ v) (λ w. Ok (slice_set vs c w))

-- the numbers less the entries, one after another
abbrev pub less_all : List ℚ → List Entry → Walk (List ℚ)
less_all vs [] = Ok vs
less_all vs (y ∷ ys) = then_walk (less_at vs y.column y.value) (λ ws. less_all ws ys)

-- the numbers less each row in order
abbrev pub less_rows : List ℚ → List Row → Walk (List ℚ)
less_rows vs [] = Ok vs
less_rows vs (r ∷ rows) = then_walk (less_all vs r.line.entries) (λ ws. less_rows ws rows)
