-- Values by the numbers of rows, in their order.
use Rattle.std.specs.Prelude.{ℕ, List, [], ◌∷◌, map, nat_lt, if◌then◌else◌}
use Rattle.rationals.specs.Rational.{ℚ}
use Rattle.rationals.specs.Sparse.{Entry}
use Rattle.rationals.specs.Forms.{put}

-- pairs of rows and values as terms
abbrev pub terms_of : List (ℕ × ℚ) → List Entry
terms_of = map (λ pair. record { column = pair.0; value = pair.1 })

-- the terms, with one more for a row that has none
abbrev pub with_term : ℕ → ℚ → List Entry → List Entry
with_term row value [] = record { column = row; value = value } ∷ []
with_term row value (term ∷ terms) =
    if nat_lt row term.column then record { column = row; value = value } ∷ term ∷ terms
    else term ∷ with_term row value terms

-- the terms whose values aren't 0
abbrev pub nonzero_terms : List Entry → List Entry
nonzero_terms [] = []
nonzero_terms (term ∷ terms) = put term.column term.value (nonzero_terms terms)
