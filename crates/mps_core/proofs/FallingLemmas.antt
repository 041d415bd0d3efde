-- Terms whose rows came in falling order, and those of the map above them.
use Rattle.std.proofs.Common.{◌≡◌, ◌∙◌, ◌≤◌, ◌==◌, ap, sym, subst, ℕ, suc, Bool, true, false, List, [], ◌∷◌, ◌++◌, Option, Some, None, refl, arith, nat_lt, if◌then◌else◌, reverse, length, append_assoc}
use Rattle.std.proofs.lemmas.Bool.Decides.{nat_tests}
use Rattle.std.proofs.lemmas.List.{reverse-append}
use Rattle.std.proofs.Math.Seq.{drop-append_seam}
use Rattle.std.specs.Ordering.{nat_cmp}
use Rattle.std.specs.BTreeMap.{insert_entry}
use Rattle.rationals.specs.Rational.{ℚ}
use Rattle.rationals.specs.Sparse.{Entry, Ascending}
use Rattle.rationals.specs.Forms.{find}
use Rattle.rationals.proofs.FormSteps.{find_below}
use Rattle.rationals.specs.Choices.{pick}
use Rattle.frac128.proofs.FormLemmas.{rises_from}
use Rattle.core_defs.specs.Terms.{terms_of, with_term}
use Rattle.core_defs.proofs.PairLemmas.{or_later}
use Rattle.mps_core.specs.Falling.{terms_in}
use Rattle.mps_core.proofs.TermLemmas.{lookup_is, none_here, insert_is}

-- ---- what rises

-- a last part of what rises rises
pub rest_rises : (xs ys : List Entry) → Ascending 0 (xs ++ ys) → Ascending 0 ys
rest_rises xs ys rises = subst (Ascending 0) (drop-append_seam xs ys) (rises_from 0 (length xs) (xs ++ ys) rises)

-- ---- what is found

or_pick : (here : Bool) (v : ℚ) (rest other : Option ℚ) → pick here (Some v) (or_later rest other) ≡ or_later (pick here (Some v) rest) other
or_pick true v rest other = refl
or_pick false v rest other = refl

pub find_append : (xs ys : List Entry) (row : ℕ) → find (xs ++ ys) row ≡ or_later (find xs row) (find ys row)
find_append [] ys row = refl
find_append (x ∷ xs) ys row = ap (pick (x.column == row) (Some x.value)) (find_append xs ys row) ∙ or_pick (x.column == row) x.value (find xs row) (find ys row)

-- ---- a term more

-- a row below all others comes first
pub with_below : (row : ℕ) (value : ℚ) (xs : List Entry) → Ascending (suc row) xs → with_term row value xs ≡ record { column = row; value = value } ∷ xs
with_below row value [] rises = refl
with_below row value (x ∷ xs) rises = let less : nat_lt row x.column ≡ true = grind (arith, nat_tests, rises.0) in rw less refl

with_step : (n row : ℕ) (value : ℚ) (x : Entry) (xs : List Entry) (less : Bool) → nat_lt row x.column ≡ less → n ≤ row
    → Ascending n (x ∷ xs) → (less ≡ false → Ascending (suc x.column) (with_term row value xs))
    → Ascending n (if less then record { column = row; value = value } ∷ x ∷ xs else x ∷ with_term row value xs)
with_step n row value x xs true less low rises later = (low, (grind (arith, nat_tests, less), rises.1))
with_step n row value x xs false less low rises later = (rises.0, later refl)

-- what rises still does with one more
pub with_rises : (n row : ℕ) (value : ℚ) (xs : List Entry) → n ≤ row → find xs row ≡ None → Ascending n xs → Ascending n (with_term row value xs)
with_rises n row value [] low none rises = (low, tt)
with_rises n row value (x ∷ xs) low none rises =
    let both : ((x.column == row) ≡ false) × (find xs row ≡ None) = none_here (x.column == row) x.value (find xs row) none in
    with_step n row value x xs (nat_lt row x.column) refl low rises
    (λ less. with_rises (suc x.column) row value xs (grind (arith, nat_tests, both.0, less)) both.1 rises.1)

-- ---- both together

-- one more that is below all
pub pushed : (falling : List Entry) (pairs : List (ℕ × ℚ)) (row : ℕ) (value : ℚ) → Ascending (suc row) (terms_in falling pairs)
    → terms_in (falling ++ record { column = row; value = value } ∷ []) pairs ≡ with_term row value (terms_in falling pairs)
pushed falling pairs row value rises =
    ap (λ back. back ++ terms_of pairs) (reverse-append falling (record { column = row; value = value } ∷ []))
    ∙ sym (with_below row value (terms_in falling pairs) rises)

moved : (term : Entry) (rest : List Entry) (pairs : List (ℕ × ℚ)) → terms_in (term ∷ rest) pairs ≡ reverse rest ++ term ∷ terms_of pairs
moved term rest pairs = ap (λ r. r ++ terms_of pairs) (reverse-append (term ∷ []) rest) ∙ append_assoc (reverse rest) (term ∷ []) (terms_of pairs)

-- the least row of those that fell goes into the map
pub kept : (term : Entry) (rest : List Entry) (pairs : List (ℕ × ℚ)) → Ascending 0 (terms_in (term ∷ rest) pairs)
    → terms_in rest (insert_entry nat_cmp pairs term.column term.value) ≡ terms_in (term ∷ rest) pairs
kept term rest pairs rises =
    let above : Ascending (suc term.column) (terms_of pairs) = (rest_rises (reverse rest) (term ∷ terms_of pairs) (subst (Ascending 0) (moved term rest pairs) rises)).1 in
    ap (λ terms. reverse rest ++ terms) (insert_is pairs term.column term.value (find_below (suc term.column) term.column (terms_of pairs) above (omega arith))
    ∙ with_below term.column term.value (terms_of pairs) above)
    ∙ sym (moved term rest pairs)

-- one more in the map
pub inserted : (pairs : List (ℕ × ℚ)) (row : ℕ) (value : ℚ) → find (terms_of pairs) row ≡ None → Ascending 0 (terms_of pairs)
    → Ascending 0 (terms_of (insert_entry nat_cmp pairs row value))
inserted pairs row value none rises = subst (Ascending 0) (sym (insert_is pairs row value none)) (with_rises 0 row value (terms_of pairs) (omega arith) none rises)

pub ruleset value_lemmas = (find_below, lookup_is, find_append)

pub ruleset add_lemmas = (pushed, inserted, insert_is)

pub ruleset keep_lemmas = (kept, rest_rises)
