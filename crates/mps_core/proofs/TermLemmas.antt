-- What a tree map finds and keeps, in the words of terms.
use Rattle.std.proofs.Common.{◌≡◌, ◌==◌, ap, ℕ, Bool, true, false, cond, List, [], ◌∷◌, Option, Some, None, refl, arith, nat_lt, if◌then◌else◌}
use Rattle.std.proofs.lemmas.Bool.Decides.{nat_tests}
use Rattle.std.specs.Map.{lookup}
use Rattle.std.specs.Ordering.{nat_cmp, match_ordering}
use Rattle.std.specs.declared.cmp.Ordering.TheVariants.{Less, Equal, Greater}
use Rattle.std.specs.BTreeMap.{insert_entry, is_at}
use Rattle.rationals.specs.Rational.{ℚ}
use Rattle.rationals.specs.Sparse.{Entry}
use Rattle.rationals.specs.Forms.{find}
use Rattle.rationals.specs.Choices.{pick}
use Rattle.core_defs.specs.Terms.{terms_of, with_term}

at_key : (row key : ℕ) → is_at (nat_cmp row) key ≡ (key == row)
at_key row key = grind (arith, nat_tests)

same_choice : (here : Bool) (value : ℚ) (rest : Option ℚ) → cond here (Some value) rest ≡ pick here (Some value) rest
same_choice true value rest = refl
same_choice false value rest = refl

-- the value in the map is the value of the term
pub lookup_is : (es : List (ℕ × ℚ)) (row : ℕ) → lookup (is_at (nat_cmp row)) es ≡ find (terms_of es) row
lookup_is [] row = refl
lookup_is (e ∷ es) row = rw (at_key row e.0, lookup_is es row) (same_choice (e.0 == row) e.1 (find (terms_of es) row))

pub none_here : (here : Bool) (value : ℚ) (rest : Option ℚ) → pick here (Some value) rest ≡ None → (here ≡ false) × (rest ≡ None)
none_here true value rest none = cc
none_here false value rest none = (refl, none)

in_order : (below : Bool) (front here after : List (ℕ × ℚ)) (last : List Entry) → terms_of after ≡ last →
    terms_of (match_ordering (cond below Less (cond false Equal Greater)) front here after) ≡ (if below then terms_of front else last)
in_order true front here after last e = refl
in_order false front here after last e = e

-- a row without a value gets one
pub insert_is : (es : List (ℕ × ℚ)) (row : ℕ) (value : ℚ) → find (terms_of es) row ≡ None → terms_of (insert_entry nat_cmp es row value) ≡ with_term row value (terms_of es)
insert_is [] row value none = refl
insert_is (e ∷ es) row value none =
    let both : ((e.0 == row) ≡ false) × (find (terms_of es) row ≡ None) = none_here (e.0 == row) e.1 (find (terms_of es) row) none in
    let other : (row == e.0) ≡ false = grind (arith, nat_tests, both.0) in
    rw other (in_order (nat_lt row e.0) _ _ _ _ (ap (λ terms. record { column = e.0; value = e.1 } ∷ terms) (insert_is es row value both.1)))
