-- Column sums and values of multipliers, operation by operation.
use Rattle.std.specs.Prelude.{ℕ, zero, suc, Bool, true, ◌&&◌, not, List, [], ◌∷◌, Ok}
use Rattle.rationals.specs.Rational.{ℚ, zero_ℚ}
use Rattle.rationals.specs.Passes.{add_product_walk, then_walk}
use Rattle.rationals.specs.Sparse.{Entry, coefficient}
use Rattle.lp_defs.specs.Tests.{is_above_zero}
use Rattle.lp_defs.specs.Walks.{Walk}
use Rattle.lp_defs.specs.Program.{Program}

-- s and the products of column j's entries and the multipliers, added by row, each as a step
abbrev pub column_from : ℚ → List (List Entry) → List ℚ → ℕ → Walk ℚ
column_from s [] y j = Ok s
column_from s (f ∷ rows) [] j = Ok s
column_from s (f ∷ rows) (v ∷ y) j = then_walk (add_product_walk s (coefficient f j) v) (λ t. column_from t rows y j)

-- whether `good` holds and no sum of column j and the columns behind it, m of them, is above 0
abbrev pub columns_from : List (List Entry) → List ℚ → ℕ → ℕ → Bool → Walk Bool
columns_from rows y j zero good = Ok good
columns_from rows y j (suc m) good =
    then_walk (column_from zero_ℚ rows y j) (λ s. columns_from rows y (suc j) m (good && not (is_above_zero s)))

-- s and the products of the multipliers and the right sides, added by row, each as a step
abbrev pub value_from : ℚ → List ℚ → List ℚ → Walk ℚ
value_from s [] right = Ok s
value_from s (v ∷ y) [] = Ok s
value_from s (v ∷ y) (b ∷ right) = then_walk (add_product_walk s v b) (λ t. value_from t y right)

-- whether no column sum is above 0 and the value is
abbrev pub ray_walk : Program → List ℚ → Walk Bool
ray_walk p y = then_walk (columns_from p.rows y 0 p.columns true) (λ good.
    then_walk (value_from zero_ℚ y p.right) (λ v. Ok (good && is_above_zero v)))
