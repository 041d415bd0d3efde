-- Lines of a tableau: sparse forms with a right side, and the checked walks that combine them.
use Rattle.std.specs.Prelude.{ℕ, true, false, List, [], ◌∷◌, ◌++◌, Ok, cond, eqb, ltb}
use Rattle.rationals.specs.Passes.{then_walk, less_product_walk, div_walk}
use Rattle.rationals.specs.Rational.{ℚ, zero_ℚ}
use Rattle.lp_defs.specs.Tests.{is_zero}
use Rattle.lp_defs.specs.Walks.{Walk}
use Rattle.rationals.specs.Sparse.{Entry}

-- entries by rising column, none of them 0
pub record Line : Type 0 where
  pub entries : List Entry
  pub right : ℚ

-- the entry of column j
abbrev pub value_at : List Entry → ℕ → ℚ
value_at [] j = zero_ℚ
value_at (x ∷ xs) j = cond (eqb x.column j) x.value (value_at xs j)

-- the value of column j behind the rest, unless it is 0
abbrev pub keep : List Entry → ℕ → ℚ → List Entry
keep done j v = elim (is_zero v) [ true ↦ done | false ↦ done ++ record { column = j; value = v } ∷ [] ]

-- ---- entries of a row less f times those of another, by column, behind what is done; each entry is a step
abbrev pub less_right : ℚ → List Entry → List Entry → Walk (List Entry)
less_right f [] done = Ok done
less_right f (y ∷ ys) done = then_walk (less_product_walk zero_ℚ f y.value) (λ v. less_right f ys (keep done y.column v))

-- x comes next in the row; `next` goes on behind x
abbrev pub less_meet : ℚ → Entry → (List Entry → List Entry → Walk (List Entry))
    → List Entry → List Entry → Walk (List Entry)
less_meet f x next [] done = next [] (done ++ x ∷ [])
less_meet f x next (y ∷ ys) done = elim (ltb x.column y.column) [
  | true ↦ next (y ∷ ys) (done ++ x ∷ [])
  | false ↦ elim (ltb y.column x.column) [
    | true ↦ then_walk (less_product_walk zero_ℚ f y.value) (λ v. less_meet f x next ys (keep done y.column v))
    | false ↦ then_walk (less_product_walk x.value f y.value) (λ v. next ys (keep done x.column v))
  ]
]

abbrev pub less_entries : ℚ → List Entry → List Entry → List Entry → Walk (List Entry)
less_entries f [] ys done = less_right f ys done
less_entries f (x ∷ xs) ys done = less_meet f x (less_entries f xs) ys done

-- a form less f times the pivot's; where f is 0 it stays
abbrev pub cleared_form : ℚ → List Entry → List Entry → Walk (List Entry)
cleared_form f pivot form = elim (is_zero f) [ true ↦ Ok form | false ↦ less_entries f form pivot [] ]

-- a line without column j, where the pivot's line has 1
abbrev pub cleared_by : ℚ → Line → Line → Walk Line
cleared_by f pivot line = elim (is_zero f) [
  | true ↦ Ok line
  | false ↦ then_walk (less_entries f line.entries pivot.entries []) (λ entries.
      then_walk (less_product_walk line.right f pivot.right) (λ right. Ok (record { entries = entries; right = right })))
]

abbrev pub cleared : ℕ → Line → Line → Walk Line
cleared j pivot line = cleared_by (value_at line.entries j) pivot line

-- ---- a line divided by its pivot
abbrev pub divided_entries : ℚ → List Entry → List Entry → Walk (List Entry)
divided_entries a [] done = Ok done
divided_entries a (x ∷ xs) done =
    then_walk (div_walk x.value a) (λ v. divided_entries a xs (done ++ record { column = x.column; value = v } ∷ []))

abbrev pub divided : ℚ → Line → Walk Line
divided a line =
    then_walk (divided_entries a line.entries []) (λ entries.
    then_walk (div_walk line.right a) (λ right. Ok (record { entries = entries; right = right })))
