-- Terms of what is stated name by name.
use Rattle.std.proofs.Common.{◌≡◌, ◌∙◌, ◌+◌, ◌<◌, ◌≤◌, eqb, pos, ap, length, zero, suc, ℕ, Bool, true, false, List, [], ◌∷◌, Option, Some, None, refl, sym, nat_lt, if◌then◌else◌, arith}
use Rattle.std.specs.Option.{unwrap_or}
use Rattle.std.specs.Ordering.{int_eq}
use Rattle.std.specs.Cmp.{signed_Decides}
use Rattle.std.proofs.lemmas.Bool.{ne_eqb}
use Rattle.std.proofs.lemmas.Bool.Decides.{nat_tests}
use Rattle.rationals.specs.Rational.{ℚ, zero_ℚ, ◌+ℚ◌, add_zero_ℚ, zero_add_ℚ}
use Rattle.rationals.specs.Sparse.{Entry, Ascending, Ascending-weaker, coefficient, value_if}
use Rattle.rationals.specs.Forms.{find, put_unless, is_zero, IsForm, AllNonzero, EndsBelow}
use Rattle.rationals.proofs.Lowest.{zero_from_num, num_zero}
use Rattle.rationals.specs.Choices.{pick}
use Rattle.core_defs.specs.Terms.{with_term, nonzero_terms}
use Rattle.core_defs.proofs.NameLemmas.{At, Missing, Distinct, Changes, name_is, same_either_way}

abbrev pub put_some : ℕ → Option ℚ → List Entry → List Entry
put_some place None terms = terms
put_some place (Some value) terms = record { column = place; value = value } ∷ terms

-- what is stated of the names, by their places; the first has the place `start`
abbrev pub terms_at : ℕ → List (List ℕ) → (List ℕ → Option ℚ) → List Entry
terms_at start [] stated = []
terms_at start (name ∷ names) stated = put_some start (stated name) (terms_at (start + 1) names stated)

put_some_rises : (start : ℕ) (value : Option ℚ) (terms : List Entry) → Ascending (suc start) terms → Ascending start (put_some start value terms)
put_some_rises start None terms rises = Ascending-weaker (suc start) start terms (omega arith) rises
put_some_rises start (Some value) terms rises = (omega arith, rises)

pub terms_rise : (start next : ℕ) (names : List (List ℕ)) (stated : List ℕ → Option ℚ) → next ≡ start → Ascending next (terms_at start names stated)
terms_rise start next [] stated same = tt
terms_rise start next (name ∷ names) stated same =
    Ascending-weaker start next (terms_at start (name ∷ names) stated) (omega arith) (put_some_rises start (stated name) (terms_at (start + 1) names stated) (terms_rise (start + 1) (suc start) names stated (omega arith)))

put_some_within : (count start : ℕ) (value : Option ℚ) (terms : List Entry) → start < count → EndsBelow count terms → EndsBelow count (put_some start value terms)
put_some_within count start None terms below within = within
put_some_within count start (Some value) terms below within = (below, within)

pub terms_within : (count start : ℕ) (names : List (List ℕ)) (stated : List ℕ → Option ℚ) → start + length names ≤ count → EndsBelow count (terms_at start names stated)
terms_within count start [] stated few = tt
terms_within count start (name ∷ names) stated few = put_some_within count start (stated name) (terms_at (start + 1) names stated) (omega arith) (terms_within count (start + 1) names stated (omega arith))

find_below : (start row : ℕ) (terms : List Entry) → Ascending start terms → row < start → find terms row ≡ None
find_below start row [] rises low = refl
find_below start row (term ∷ terms) rises low =
    let apart : eqb term.column row ≡ false = ne_eqb term.column row (λ same. absurd (omega (arith, rises.0))) in
    ap (λ here. pick here (Some term.value) (find terms row)) apart ∙ find_below (suc term.column) row terms rises.1 (omega (arith, rises.0))

find_first : (start row : ℕ) (value : Option ℚ) (terms : List Entry) → row ≡ start → Ascending (suc start) terms → find (put_some start value terms) row ≡ value
find_first start row None terms same rises = find_below (suc start) row terms rises (omega arith)
find_first start row (Some value) terms same rises = let here : eqb start row ≡ true = grind (arith, nat_tests) in ap (λ known. pick known (Some value) (find terms row)) here

find_later : (start row : ℕ) (value : Option ℚ) (terms : List Entry) → start < row → find (put_some start value terms) row ≡ find terms row
find_later start row None terms low = refl
find_later start row (Some value) terms low = let apart : eqb start row ≡ false = ne_eqb start row (λ same. absurd (omega arith)) in ap (λ known. pick known (Some value) (find terms row)) apart

-- what is stated of a name is found at its place
pub find_at : (start row : ℕ) (names : List (List ℕ)) (place : ℕ) (name : List ℕ) (stated : List ℕ → Option ℚ) → At names place name → row ≡ start + place → find (terms_at start names stated) row ≡ stated name
find_at start row [] place name stated at is = absurd at
find_at start row (first ∷ names) zero name stated at is =
    find_first start row (stated first) (terms_at (start + 1) names stated) (omega arith) (terms_rise (start + 1) (suc start) names stated (omega arith)) ∙ ap stated (sym (name_is name first at))
find_at start row (first ∷ names) (suc place) name stated at is = find_later start row (stated first) (terms_at (start + 1) names stated) (omega arith) ∙ find_at (start + 1) row names place name stated at.1 (omega arith)

pub terms_missing : (start : ℕ) (names : List (List ℕ)) (name : List ℕ) (old new : List ℕ → Option ℚ) → Missing names name → Changes name old new → terms_at start names new ≡ terms_at start names old
terms_missing start [] name old new missing changes = refl
terms_missing start (first ∷ names) name old new missing changes =
    ap (λ value. put_some start value (terms_at (start + 1) names new)) (changes.others first (same_either_way first name ∙ missing.0)) ∙ ap (put_some start (old first)) (terms_missing (start + 1) names name old new missing.1 changes)

pub terms_same : (start : ℕ) (names : List (List ℕ)) (old new : List ℕ → Option ℚ) → ((name : List ℕ) → new name ≡ old name) → terms_at start names new ≡ terms_at start names old
terms_same start [] old new same = refl
terms_same start (first ∷ names) old new same = ap (λ value. put_some start value (terms_at (start + 1) names new)) (same first) ∙ ap (put_some start (old first)) (terms_same (start + 1) names old new same)

pub terms_none : (start : ℕ) (names : List (List ℕ)) (stated : List ℕ → Option ℚ) → ((name : List ℕ) → stated name ≡ None) → terms_at start names stated ≡ []
terms_none start [] stated none = refl
terms_none start (first ∷ names) stated none = ap (λ value. put_some start value (terms_at (start + 1) names stated)) (none first) ∙ terms_none (start + 1) names stated none

with_first : (start row : ℕ) (value : ℚ) (terms : List Entry) → row ≡ start → Ascending (suc start) terms → with_term row value terms ≡ record { column = start; value = value } ∷ terms
with_first start row value [] same rises = ap (λ (column : ℕ). record { column = column; value = value } ∷ []) same
with_first start row value (term ∷ terms) same rises =
    let low : nat_lt row term.column ≡ true = grind (arith, nat_tests, rises.0) in
    ap (λ here. if here then record { column = row; value = value } ∷ term ∷ terms else term ∷ with_term row value terms) low ∙ ap (λ (column : ℕ). record { column = column; value = value } ∷ term ∷ terms) same

with_later : (start row : ℕ) (value : ℚ) (first : Option ℚ) (terms : List Entry) → start < row → with_term row value (put_some start first terms) ≡ put_some start first (with_term row value terms)
with_later start row value None terms low = refl
with_later start row value (Some known) terms low =
    let high : nat_lt row start ≡ false = grind (arith, nat_tests) in
    ap (λ here. if here then record { column = row; value = value } ∷ record { column = start; value = known } ∷ terms else record { column = start; value = known } ∷ with_term row value terms) high

-- a first value of a name goes to its place
pub with_at : (start row : ℕ) (names : List (List ℕ)) (place : ℕ) (name : List ℕ) (old new : List ℕ → Option ℚ) (value : ℚ) → Distinct names → At names place name → row ≡ start + place → Changes name old new → old name ≡ None → new name ≡ Some value →
    with_term row value (terms_at start names old) ≡ terms_at start names new
with_at start row [] place name old new value distinct at is changes none some = absurd at
with_at start row (first ∷ names) zero name old new value distinct at is changes none some =
    let same : name ≡ first = name_is name first at in
    let gone : old first ≡ None = ap old (sym same) ∙ none in
    let there : new first ≡ Some value = ap new (sym same) ∙ some in
    let missing : Missing names name = rw same distinct.0 in
    ap (λ known. with_term row value (put_some start known (terms_at (start + 1) names old))) gone
    ∙ with_first start row value (terms_at (start + 1) names old) (omega arith) (terms_rise (start + 1) (suc start) names old (omega arith))
    ∙ ap (λ rest. record { column = start; value = value } ∷ rest) (sym (terms_missing (start + 1) names name old new missing changes))
    ∙ ap (λ known. put_some start known (terms_at (start + 1) names new)) (sym there)
with_at start row (first ∷ names) (suc place) name old new value distinct at is changes none some =
    with_later start row value (old first) (terms_at (start + 1) names old) (omega arith)
    ∙ ap (put_some start (old first)) (with_at (start + 1) row names place name old new value distinct.1 at.1 (omega arith) changes none some)
    ∙ ap (λ known. put_some start known (terms_at (start + 1) names new)) (sym (changes.others first (same_either_way first name ∙ at.0)))

-- ---- terms that aren't 0

put_rises : (zero_ : Bool) (start row : ℕ) (value : ℚ) (terms : List Entry) → start ≤ row → Ascending (suc row) terms → Ascending start (put_unless zero_ row value terms)
put_rises true start row value terms low rises = Ascending-weaker (suc row) start terms (omega arith) rises
put_rises false start row value terms low rises = (low, rises)

nonzero_rises : (start : ℕ) (terms : List Entry) → Ascending start terms → Ascending start (nonzero_terms terms)
nonzero_rises start [] rises = tt
nonzero_rises start (term ∷ terms) rises = put_rises (is_zero term.value) start term.column term.value (nonzero_terms terms) rises.0 (nonzero_rises (suc term.column) terms rises.1)

put_nonzero : (zero_ : Bool) (row : ℕ) (value : ℚ) (terms : List Entry) → is_zero value ≡ zero_ → AllNonzero terms → AllNonzero (put_unless zero_ row value terms)
put_nonzero true row value terms is rest = rest
put_nonzero false row value terms is rest =
    (λ none. let yes : is_zero value ≡ true = ap (λ num. int_eq num (pos 0)) (num_zero value none) in absurd (cc), rest)

terms_nonzero : (terms : List Entry) → AllNonzero (nonzero_terms terms)
terms_nonzero [] = tt
terms_nonzero (term ∷ terms) = put_nonzero (is_zero term.value) term.column term.value (nonzero_terms terms) refl (terms_nonzero terms)

pub nonzero_form : (terms : List Entry) → Ascending 0 terms → IsForm (nonzero_terms terms)
nonzero_form terms rises = record { rises = nonzero_rises 0 terms rises; nonzero = terms_nonzero terms }

put_within : (zero_ : Bool) (rows row : ℕ) (value : ℚ) (terms : List Entry) → row < rows → EndsBelow rows terms → EndsBelow rows (put_unless zero_ row value terms)
put_within true rows row value terms low within = within
put_within false rows row value terms low within = (low, within)

pub nonzero_within : (rows : ℕ) (terms : List Entry) → EndsBelow rows terms → EndsBelow rows (nonzero_terms terms)
nonzero_within rows [] within = tt
nonzero_within rows (term ∷ terms) within = put_within (is_zero term.value) rows term.column term.value (nonzero_terms terms) within.0 (nonzero_within rows terms within.1)

pub none_below : (start row : ℕ) (terms : List Entry) → Ascending start terms → row < start → coefficient terms row ≡ zero_ℚ
none_below start row [] rises low = refl
none_below start row (term ∷ terms) rises low =
    let apart : eqb term.column row ≡ false = ne_eqb term.column row (λ same. absurd (omega (arith, rises.0))) in
    ap (λ b. value_if b term.value +ℚ coefficient terms row) apart ∙ zero_add_ℚ (coefficient terms row) ∙ none_below (suc term.column) row terms rises.1 (omega (arith, rises.0))

zero_is : (value : ℚ) → is_zero value ≡ true → value ≡ zero_ℚ
zero_is value is = zero_from_num value ((signed_Decides value.num (pos 0)).0 is)

coefficient_if : (here zero_ : Bool) (term : Entry) (rest : List Entry) (later : Option ℚ) (row : ℕ) → eqb term.column row ≡ here → is_zero term.value ≡ zero_ → (here ≡ true → coefficient rest row ≡ zero_ℚ) → coefficient rest row ≡ unwrap_or later zero_ℚ →
    coefficient (put_unless zero_ term.column term.value rest) row ≡ unwrap_or (pick here (Some term.value) later) zero_ℚ
coefficient_if true true term rest later row at is none e = none refl ∙ sym (zero_is term.value is)
coefficient_if false true term rest later row at is none e = e
coefficient_if true false term rest later row at is none e = ap (λ b. value_if b term.value +ℚ coefficient rest row) at ∙ ap (λ v. term.value +ℚ v) (none refl) ∙ add_zero_ℚ term.value
coefficient_if false false term rest later row at is none e = ap (λ b. value_if b term.value +ℚ coefficient rest row) at ∙ zero_add_ℚ (coefficient rest row) ∙ e

-- the coefficient of a row is the value that stands there, or 0
pub coefficient_is : (start : ℕ) (terms : List Entry) (row : ℕ) → Ascending start terms → coefficient (nonzero_terms terms) row ≡ unwrap_or (find terms row) zero_ℚ
coefficient_is start [] row rises = refl
coefficient_is start (term ∷ terms) row rises =
    coefficient_if (eqb term.column row) (is_zero term.value) term (nonzero_terms terms) (find terms row) row refl refl
    (λ here. let same : term.column ≡ row = grind (arith, nat_tests, here) in none_below (suc term.column) row (nonzero_terms terms) (nonzero_rises (suc term.column) terms rises.1) (omega arith))
    (coefficient_is (suc term.column) terms row rises.1)
