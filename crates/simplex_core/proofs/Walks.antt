-- How walks go on.
use Rattle.std.proofs.Common.{◌≡◌, ℕ, ◌≤◌, ◌+◌, ◌-◌, List, [], ◌∷◌, ◌++◌, Ok, ◌⊎◌, inl, inr, length, take, drop, refl, sym, ap, ◌∙◌, arith, append_assoc}
use Rattle.std.proofs.lemmas.List.{append-nil, drop_all, take_rest, length-drop}
use Rattle.rationals.specs.Rational.{ℚ}
use Rattle.rationals.specs.Sparse.{Entry}
use Rattle.lp_defs.specs.Lines.{less_entries, less_right}

-- the pivot has no more entries
pub alone : (f : ℚ) (xs done : List Entry) → less_entries f xs [] done ≡ less_right f [] (done ++ xs)
alone f [] done = ap (λ (l : List Entry). Ok l) (sym (append-nil done))
alone f (x ∷ xs) done = alone f xs (done ++ x ∷ []) ∙ ap (λ (l : List Entry). Ok l) (append_assoc done (x ∷ []) xs)

pub rest_is : (f : ℚ) (row pivot done : List Entry) (i j : ℕ) → (length pivot ≤ j) ⊎ (length row ≤ i) → less_right f (drop j pivot) (done ++ drop i row) ≡ less_entries f (drop i row) (drop j pivot) done
rest_is f row pivot done i j (inl h) = rw (drop_all j pivot h) (sym (alone f (drop i row) done))
rest_is f row pivot done i j (inr h) = rw (drop_all i row h, append-nil done) refl

-- the room behind the rest of the row
pub room_left : (row : List Entry) (i new old room more rest : ℕ) → new ≡ old + length (take (length row - i) (drop i row)) → old + (length row - i) + rest ≤ room → room ≤ more → new + rest ≤ more
room_left row i new old room more rest h k l =
    let e : length (take (length row - i) (drop i row)) ≡ length row - i = ap (λ (x : List Entry). length x) (take_rest row i) ∙ length-drop i row in
    omega arith
