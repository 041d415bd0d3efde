-- The steps of the loops that merge two lists of entries: what the walk is behind a step, and the room that is left.
use Rattle.std.proofs.Common.{◌≡◌, ℕ, suc, ◌<◌, ◌≤◌, ◌+◌, ◌-◌, List, [], ◌∷◌, ◌++◌, Ok, length, get_or, drop, refl, sym, ap, subst, ◌∙◌, arith, add-one}
use Rattle.std.proofs.Math.Seq.{drop-cons}
use Rattle.std.proofs.lemmas.List.{drop_all}
use Rattle.rationals.specs.Rational.{ℚ, zero_ℚ}
use Rattle.rationals.specs.Passes.{then_walk, less_product_walk}
use Rattle.rationals.specs.Sparse.{Entry}
use Rattle.lp_defs.specs.Lines.{keep, less_entries, less_meet, less_right}
use Rattle.lp_defs.specs.Walks.{Walk}
use Rattle.simplex_core.proofs.Sweep.{meet_before, meet_same, meet_sooner}

from_here : (xs : List Entry) (i : ℕ) (x : Entry) → i < length xs → x ≡ get_or xs i x → drop i xs ≡ x ∷ drop (i + 1) xs
from_here xs i x h e = rw add-one (drop-cons xs i x h ∙ ap (λ (z : Entry). z ∷ drop (suc i) xs) (sym e))

-- an entry that was read, as its value
pub read_as : (xs : List Entry) (i : ℕ) (p x : Entry) → p ≡ x → x ≡ get_or xs i x → p ≡ get_or xs i p
read_as xs i p x e h = subst (λ (z : Entry). z ≡ get_or xs i z) (sym e) h

pub pushed_as : (done new : List Entry) (p x : Entry) → p ≡ x → new ≡ done ++ x ∷ [] → new ≡ done ++ p ∷ []
pushed_as done new p x e h = h ∙ ap (λ (z : Entry). done ++ z ∷ []) (sym e)

goes_on : (w : Walk ℚ) (v : ℚ) (next : ℚ → Walk (List Entry)) → Ok v ≡ w → then_walk w next ≡ next v
goes_on w v next e = ap (λ (z : Walk ℚ). then_walk z next) (sym e)

-- the row's entry comes next
pub row_next : (f : ℚ) (row pivot done new : List Entry) (i j : ℕ) (x y : Entry) → i < length row → j < length pivot → x ≡ get_or row i x → y ≡ get_or pivot j y → x.column < y.column → new ≡ done ++ x ∷ []
    → less_entries f (drop (i + 1) row) (drop j pivot) new ≡ less_entries f (drop i row) (drop j pivot) done
row_next f row pivot done new i j x y h k a b l e =
    rw (from_here row i x h a, from_here pivot j y k b, e) (sym (meet_sooner f x (less_entries f (drop (i + 1) row)) y (drop (j + 1) pivot) done l))

-- the pivot's entry comes next
pub pivot_next : (f z v : ℚ) (row pivot done new : List Entry) (i j : ℕ) (x y : Entry) → i < length row → j < length pivot → x ≡ get_or row i x → y ≡ get_or pivot j y → y.column < x.column → z ≡ zero_ℚ → Ok v ≡ less_product_walk z f y.value → new ≡ keep done y.column v
    → less_entries f (drop i row) (drop (j + 1) pivot) new ≡ less_entries f (drop i row) (drop j pivot) done
pivot_next f z v row pivot done new i j x y h k a b l o g e =
    let next : ℚ → Walk (List Entry) = λ w. less_meet f x (less_entries f (drop (i + 1) row)) (drop (j + 1) pivot) (keep done y.column w) in
    rw (from_here row i x h a, from_here pivot j y k b, e)
    (sym (meet_before f x (less_entries f (drop (i + 1) row)) y (drop (j + 1) pivot) done l ∙ goes_on (less_product_walk zero_ℚ f y.value) v next (g ∙ ap (λ (n : ℚ). less_product_walk n f y.value) o)))

-- both have an entry of the next column
pub both_next : (f v : ℚ) (row pivot done new : List Entry) (i j : ℕ) (x y : Entry) → i < length row → j < length pivot → x ≡ get_or row i x → y ≡ get_or pivot j y → y.column ≤ x.column → x.column ≤ y.column → Ok v ≡ less_product_walk x.value f y.value → new ≡ keep done x.column v
    → less_entries f (drop (i + 1) row) (drop (j + 1) pivot) new ≡ less_entries f (drop i row) (drop j pivot) done
both_next f v row pivot done new i j x y h k a b l m g e =
    let next : ℚ → Walk (List Entry) = λ w. less_entries f (drop (i + 1) row) (drop (j + 1) pivot) (keep done x.column w) in
    let same : y.column ≡ x.column = omega arith in
    rw (from_here row i x h a, from_here pivot j y k b, e)
    (sym (meet_same f x (less_entries f (drop (i + 1) row)) y (drop (j + 1) pivot) done same ∙ goes_on (less_product_walk x.value f y.value) v next g))

-- the pivot's entry, behind the row
pub right_next : (f z v : ℚ) (pivot done new : List Entry) (j : ℕ) (y : Entry) → j < length pivot → y ≡ get_or pivot j y → z ≡ zero_ℚ → Ok v ≡ less_product_walk z f y.value → new ≡ keep done y.column v
    → less_right f (drop (j + 1) pivot) new ≡ less_right f (drop j pivot) done
right_next f z v pivot done new j y k b o g e =
    let next : ℚ → Walk (List Entry) = λ w. less_right f (drop (j + 1) pivot) (keep done y.column w) in
    rw (from_here pivot j y k b, e) (sym (goes_on (less_product_walk zero_ℚ f y.value) v next (g ∙ ap (λ (n : ℚ). less_product_walk n f y.value) o)))

-- the pivot has no more entries
pub right_ends : (f : ℚ) (pivot done : List Entry) (j : ℕ) → length pivot ≤ j → less_right f (drop j pivot) done ≡ Ok done
right_ends f pivot done j h = rw (drop_all j pivot h) refl

-- ---- the room behind a step
pub room_row : (r p i j len new room more : ℕ) → i < r → new ≡ len + 1 → more ≡ room → len + (r - i) + (p - j) ≤ room → new + (r - (i + 1)) + (p - j) ≤ more
room_row r p i j len new room more h k e l = omega arith

pub room_pivot : (r p i j len new room more : ℕ) → j < p → new ≤ len + 1 → more ≡ room → len + (r - i) + (p - j) ≤ room → new + (r - i) + (p - (j + 1)) ≤ more
room_pivot r p i j len new room more h k e l = omega arith

pub room_both : (r p i j len new room more : ℕ) → i < r → j < p → new ≤ len + 1 → more ≡ room → len + (r - i) + (p - j) ≤ room → new + (r - (i + 1)) + (p - (j + 1)) ≤ more
room_both r p i j len new room more h o k e l = omega arith

pub room_right : (p j len new room more : ℕ) → j < p → new ≤ len + 1 → more ≡ room → len + (p - j) ≤ room → new + (p - (j + 1)) ≤ more
room_right p j len new room more h k e l = omega arith

-- ---- a step leaves less
pub less_row_left : (r p i j : ℕ) → i < r → (r - (i + 1)) + (p - j) < (r - i) + (p - j)
less_row_left r p i j h = omega arith

pub less_pivot_left : (r p i j : ℕ) → j < p → (r - i) + (p - (j + 1)) < (r - i) + (p - j)
less_pivot_left r p i j h = omega arith

pub less_both_left : (r p i j : ℕ) → i < r → j < p → (r - (i + 1)) + (p - (j + 1)) < (r - i) + (p - j)
less_both_left r p i j h k = omega arith

pub less_right_left : (p j : ℕ) → j < p → p - (j + 1) < p - j
less_right_left p j h = omega arith

pub step_within : (n i : ℕ) → i < n → i + 1 ≤ n
step_within n i h = omega arith
