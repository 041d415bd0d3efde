-- Names and their places.
use Rattle.std.proofs.Common.{◌⊎◌, inl, inr, rules, ◌≡◌, ◌∙◌, ◌++◌, ◌+◌, ◌-◌, ◌<◌, ◌≤◌, ap, length, get_or, suc, length-append, ℕ, Bool, true, false, List, [], ◌∷◌, Option, Some, None, nat_eq, is_some, refl, sym, if◌then◌else◌, arith}
use Rattle.std.specs.Cmp.Lexicographic.{same_text}
use Rattle.std.proofs.lemmas.List.{get_or_append_left}
use Rattle.std.proofs.Math.Seq.{get_or-append_seam}
use Rattle.std.proofs.lemmas.Bool.Decides.{nat_tests}
use Rattle.smps_words.specs.Names.{same_name, place_of, place_from, IsNumbered}

-- the place of a name has that name
abbrev pub IsAt : ℕ → List (List ℕ) → List ℕ → ℕ → Type 0
IsAt start names name place = (start ≤ place) × (place - start < length names) × (get_or names (place - start) [] ≡ name)

place_here : (start : ℕ) (first : List ℕ) (names : List (List ℕ)) (name : List ℕ) (place : ℕ) (b : Bool) → same_name name first ≡ b → (place_from (start + 1) names name ≡ Some place → IsAt (start + 1) names name place) →
    (if b then Some start else place_from (start + 1) names name) ≡ Some place → IsAt start (first ∷ names) name place
place_here start first names name place true same later is =
    let at : start ≡ place = cc in
    let none : place - start ≡ 0 = omega arith in
    (omega arith, omega arith, rw none (sym (same_text name first (sym same))))
place_here start first names name place false same later is =
    let rest : IsAt (start + 1) names name place = later is in
    let more : place - start ≡ suc (place - (start + 1)) = omega (arith, rest.0) in
    (omega (arith, rest.0), omega (arith, rest.0, rest.1), rw more rest.2)

place_right : (start : ℕ) (names : List (List ℕ)) (name : List ℕ) (place : ℕ) → place_from start names name ≡ Some place → IsAt start names name place
place_right start [] name place e = cc
place_right start (first ∷ names) name place e = place_here start first names name place (same_name name first) refl (place_right (start + 1) names name place) e

pub place_of_right : (names : List (List ℕ)) (name : List ℕ) (place : ℕ) → place_of names name ≡ Some place → (place < length names) × (get_or names place [] ≡ name)
place_of_right names name place e =
    let right : IsAt 0 names name place = place_right 0 names name place e in
    let same : place - 0 ≡ place = omega arith in
    (omega (arith, right.1), rw same at right.2)

kept_here : (start : ℕ) (rest more : Option ℕ) (place : ℕ) (b : Bool) → (rest ≡ Some place → more ≡ Some place) → (if b then Some start else rest) ≡ Some place → (if b then Some start else more) ≡ Some place
kept_here start rest more place true later e = e
kept_here start rest more place false later e = later e

-- names that come later change no place
pub place_kept : (start : ℕ) (names more : List (List ℕ)) (name : List ℕ) (place : ℕ) → place_from start names name ≡ Some place → place_from start (names ++ more) name ≡ Some place
place_kept start [] more name place e = cc
place_kept start (first ∷ names) more name place e =
    kept_here start (place_from (start + 1) names name) (place_from (start + 1) (names ++ more) name) place (same_name name first) (place_kept (start + 1) names more name place) e

pub same_name_refl : (name : List ℕ) → same_name name name ≡ true
same_name_refl [] = refl
same_name_refl (byte ∷ name) = let here : nat_eq byte byte ≡ true = grind (arith, nat_tests) in rw (here, same_name_refl name) refl

new_here : (start next : ℕ) (rest more : Option ℕ) (b : Bool) → (rest ≡ None → more ≡ Some next) → is_some (if b then Some start else rest) ≡ false → (if b then Some start else more) ≡ Some next
new_here start next None more false later e = later refl
new_here start next (Some place) more false later e = cc
new_here start next rest more true later e = cc

is_none : (o : Option ℕ) → o ≡ None → is_some o ≡ false
is_none o e = rw e refl

place_new : (start : ℕ) (names : List (List ℕ)) (name : List ℕ) → is_some (place_from start names name) ≡ false → place_from start (names ++ name ∷ []) name ≡ Some (start + length names)
place_new start [] name none = let at : start ≡ start + 0 = omega arith in rw (same_name_refl name) (ap Some at)
place_new start (first ∷ names) name none =
    let next : (start + 1) + length names ≡ start + length (first ∷ names) = omega arith in
    new_here start (start + length (first ∷ names)) (place_from (start + 1) names name) (place_from (start + 1) (names ++ name ∷ []) name) (same_name name first)
    (λ gone. place_new (start + 1) names name (is_none (place_from (start + 1) names name) gone) ∙ ap Some next) none

either_way : (i n : ℕ) → i < n + 1 → (i < n) ⊎ (i ≡ n)
either_way i n below = first_of (search (arith, rules), omega arith)

numbered_own : (names : List (List ℕ)) (name : List ℕ) (i : ℕ) → IsNumbered names → is_some (place_of names name) ≡ false → (i < length names) ⊎ (i ≡ length names) → place_of (names ++ name ∷ []) (get_or (names ++ name ∷ []) i []) ≡ Some i
numbered_own names name i numbered none (inl below) = rw (get_or_append_left names (name ∷ []) [] i below) (place_kept 0 names (name ∷ []) _ i (numbered.own i below))
numbered_own names name i numbered none (inr at) =
    let count : 0 + length names ≡ i = omega arith in
    let here : get_or (names ++ name ∷ []) i [] ≡ name = rw at (get_or-append_seam names name [] []) in
    rw here (place_new 0 names name none ∙ ap Some count)

-- a name that isn't there goes last
pub numbered_snoc : (names : List (List ℕ)) (name : List ℕ) → IsNumbered names → is_some (place_of names name) ≡ false → IsNumbered (names ++ name ∷ [])
numbered_snoc names name numbered none = record {
  own = λ i below. numbered_own names name i numbered none (either_way i (length names) (omega (arith, length-append names (name ∷ []))));
}

pub none_numbered : IsNumbered []
none_numbered = record { own = λ i below. absurd (omega arith) }
