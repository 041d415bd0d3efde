-- Lists of different names, and what is stated name by name.
use Rattle.std.proofs.Common.{◌⊎◌, inl, inr, ◌≡◌, ◌∙◌, ◌++◌, ◌+◌, ◌<◌, ap, map, length, get_or, set, zero, suc, ℕ, Bool, true, false, List, [], ◌∷◌, Option, Some, None, is_some, refl, sym, subst, if◌then◌else◌, arith}
use Rattle.std.specs.Cmp.Lexicographic.{same_text}
use Rattle.smps_words.specs.Names.{same_name, place_from, place_of, IsNumbered}
use Rattle.smps_words.proofs.NumberedNames.{same_name_refl}
use Rattle.core_defs.specs.Filed.{last_of}
use Rattle.core_defs.specs.Stated.{with_new, distinct_from}

pub name_is : (one other : List ℕ) → same_name one other ≡ true → one ≡ other
name_is one other same = same_text one other (sym same)

pub agree : (one other : Bool) → (one ≡ true → other ≡ true) → (other ≡ true → one ≡ true) → one ≡ other
agree true true to from = refl
agree true false to from = sym (to refl)
agree false true to from = from refl
agree false false to from = refl

pub same_either_way : (one other : List ℕ) → same_name one other ≡ same_name other one
same_either_way one other = agree (same_name one other) (same_name other one)
    (λ same. ap (λ name. same_name name one) (sym (name_is one other same)) ∙ same_name_refl one) (λ same. ap (λ name. same_name name other) (sym (name_is other one same)) ∙ same_name_refl other)

-- the name stands at this place, and at no place before it
abbrev pub At : List (List ℕ) → ℕ → List ℕ → Type 0
At [] place name = ⊥
At (first ∷ names) zero name = same_name name first ≡ true
At (first ∷ names) (suc place) name = (same_name name first ≡ false) × At names place name

abbrev pub Missing : List (List ℕ) → List ℕ → Type 0
Missing [] name = Unit {0}
Missing (first ∷ names) name = (same_name name first ≡ false) × Missing names name

-- no name stands there twice
abbrev pub Distinct : List (List ℕ) → Type 0
Distinct [] = Unit {0}
Distinct (name ∷ names) = Missing names name × Distinct names

at_here : (start : ℕ) (first : List ℕ) (names : List (List ℕ)) (name : List ℕ) (place : ℕ) (here : Bool) → same_name name first ≡ here → (place_from (start + 1) names name ≡ Some place → (i : ℕ) × (place ≡ start + 1 + i) × At names i name) →
    (if here then Some start else place_from (start + 1) names name) ≡ Some place → (i : ℕ) × (place ≡ start + i) × At (first ∷ names) i name
at_here start first names name place true same later e = let at : start ≡ place = cc in (0, omega arith, same)
at_here start first names name place false same later e = let rest = later e in (suc rest.0, omega (arith, rest.1), (same, rest.2))

at_from : (start : ℕ) (names : List (List ℕ)) (name : List ℕ) (place : ℕ) → place_from start names name ≡ Some place → (i : ℕ) × (place ≡ start + i) × At names i name
at_from start [] name place e = cc
at_from start (first ∷ names) name place e = at_here start first names name place (same_name name first) refl (at_from (start + 1) names name place) e

pub place_at : (names : List (List ℕ)) (name : List ℕ) (place : ℕ) → place_of names name ≡ Some place → At names place name
place_at names name place e = let found = at_from 0 names name place e in let same : found.0 ≡ place = omega (arith, found.1) in subst (λ (i : ℕ). At names i name) same found.2

missing_here : (start : ℕ) (first : List ℕ) (names : List (List ℕ)) (name : List ℕ) (here : Bool) → same_name name first ≡ here → (place_from (start + 1) names name ≡ None → Missing names name) → (if here then Some start else place_from (start + 1) names name) ≡ None → Missing (first ∷ names) name
missing_here start first names name true same later e = cc
missing_here start first names name false same later e = (same, later e)

pub place_missing : (start : ℕ) (names : List (List ℕ)) (name : List ℕ) → place_from start names name ≡ None → Missing names name
place_missing start [] name e = tt
place_missing start (first ∷ names) name e = missing_here start first names name (same_name name first) refl (place_missing (start + 1) names name) e

pub missing_place : (start : ℕ) (names : List (List ℕ)) (name : List ℕ) → Missing names name → place_from start names name ≡ None
missing_place start [] name missing = refl
missing_place start (first ∷ names) name missing = ap (λ here. if here then Some start else place_from (start + 1) names name) missing.0 ∙ missing_place (start + 1) names name missing.1

pub is_none : {A : Type 0} (o : Option A) → is_some o ≡ false → o ≡ None
is_none None e = refl
is_none (Some x) e = cc

pub not_there : (names : List (List ℕ)) (name : List ℕ) → is_some (place_of names name) ≡ false → Missing names name
not_there names name e = place_missing 0 names name (is_none (place_of names name) e)

at_place_from : (start : ℕ) (names : List (List ℕ)) (name : List ℕ) (place : ℕ) → At names place name → place_from start names name ≡ Some (start + place)
at_place_from start [] name place at = absurd at
at_place_from start (first ∷ names) name zero at = let none : start ≡ start + 0 = omega arith in ap (λ here. if here then Some start else place_from (start + 1) names name) at ∙ ap Some none
at_place_from start (first ∷ names) name (suc place) at =
    let next : start + 1 + place ≡ start + suc place = omega arith in
    ap (λ here. if here then Some start else place_from (start + 1) names name) at.0 ∙ at_place_from (start + 1) names name place at.1 ∙ ap Some next

pub at_below : (names : List (List ℕ)) (place : ℕ) (name : List ℕ) → At names place name → place < length names
at_below [] place name at = absurd at
at_below (first ∷ names) zero name at = omega arith
at_below (first ∷ names) (suc place) name at = omega (arith, at_below names place name at.1)

pub at_get : (names : List (List ℕ)) (place : ℕ) (name : List ℕ) → At names place name → get_or names place [] ≡ name
at_get [] place name at = absurd at
at_get (first ∷ names) zero name at = sym (name_is name first at)
at_get (first ∷ names) (suc place) name at = at_get names place name at.1

-- what isn't there isn't what is there
pub missing_at : (names : List (List ℕ)) (place : ℕ) (name other : List ℕ) → At names place name → Missing names other → same_name other name ≡ false
missing_at [] place name other at missing = absurd at
missing_at (first ∷ names) zero name other at missing = ap (same_name other) (name_is name first at) ∙ missing.0
missing_at (first ∷ names) (suc place) name other at missing = missing_at names place name other at.1 missing.1

-- each name of a list is at its place
pub own_at : (names : List (List ℕ)) (place : ℕ) → Distinct names → place < length names → At names place (get_or names place [])
own_at [] place distinct below = absurd (omega arith)
own_at (first ∷ names) zero distinct below = same_name_refl first
own_at (first ∷ names) (suc place) distinct below =
    let later : At names place (get_or names place []) = own_at names place distinct.1 (omega arith) in
    (same_either_way (get_or names place []) first ∙ missing_at names place (get_or names place []) first later distinct.0, later)

pub numbered : (names : List (List ℕ)) → Distinct names → IsNumbered names
numbered names distinct = record { own = λ place below. at_place_from 0 names (get_or names place []) place (own_at names place distinct below) ∙ (let same : 0 + place ≡ place = omega arith in ap Some same) }

pub missing_snoc : (names : List (List ℕ)) (name other : List ℕ) → Missing names other → same_name other name ≡ false → Missing (names ++ name ∷ []) other
missing_snoc [] name other missing apart = (apart, tt)
missing_snoc (first ∷ names) name other missing apart = (missing.0, missing_snoc names name other missing.1 apart)

pub distinct_snoc : (names : List (List ℕ)) (name : List ℕ) → Distinct names → Missing names name → Distinct (names ++ name ∷ [])
distinct_snoc [] name distinct missing = (tt, tt)
distinct_snoc (first ∷ names) name distinct missing = (missing_snoc names name first distinct.0 (same_either_way first name ∙ missing.0), distinct_snoc names name distinct.1 missing.1)

pub missing_front : (names : List (List ℕ)) (name other : List ℕ) → Missing (names ++ name ∷ []) other → Missing names other × (same_name other name ≡ false)
missing_front [] name other missing = (tt, missing.0)
missing_front (first ∷ names) name other missing = let rest = missing_front names name other missing.1 in ((missing.0, rest.0), rest.1)

-- the last name isn't among those before it
pub distinct_last : (names : List (List ℕ)) (name : List ℕ) → Distinct (names ++ name ∷ []) → Missing names name
distinct_last [] name distinct = tt
distinct_last (first ∷ names) name distinct = (same_either_way name first ∙ (missing_front names name first distinct.0).1, distinct_last names name distinct.1)

-- ---- what is stated name by name

-- only what is stated of this name changes
pub record Changes {A : Type 0} (name : List ℕ) (old new : List ℕ → A) : Type 0 where
  pub others : (other : List ℕ) → same_name other name ≡ false → new other ≡ old other

pub map_missing : {A : Type 0} (names : List (List ℕ)) (name : List ℕ) (old new : List ℕ → A) → Missing names name → Changes name old new → map new names ≡ map old names
map_missing [] name old new missing changes = refl
map_missing (first ∷ names) name old new missing changes =
    ap (λ here. here ∷ map new names) (changes.others first (same_either_way first name ∙ missing.0)) ∙ ap (λ rest. old first ∷ rest) (map_missing names name old new missing.1 changes)

pub map_set : {A : Type 0} (names : List (List ℕ)) (place : ℕ) (name : List ℕ) (old new : List ℕ → A) → Distinct names → At names place name → Changes name old new → set (map old names) place (new name) ≡ map new names
map_set [] place name old new distinct at changes = absurd at
map_set (first ∷ names) zero name old new distinct at changes =
    let same : name ≡ first = name_is name first at in
    ap (λ known. new known ∷ map old names) same ∙ ap (λ rest. new first ∷ rest) (sym (map_missing names name old new (subst (Missing names) (sym same) distinct.0) changes))
map_set (first ∷ names) (suc place) name old new distinct at changes =
    ap (λ rest. old first ∷ rest) (map_set names place name old new distinct.1 at.1 changes) ∙ ap (λ here. here ∷ map new names) (sym (changes.others first (same_either_way first name ∙ at.0)))

pub map_get : {A : Type 0} (names : List (List ℕ)) (place : ℕ) (name : List ℕ) (stated : List ℕ → A) (d : A) → At names place name → get_or (map stated names) place d ≡ stated name
map_get [] place name stated d at = absurd at
map_get (first ∷ names) zero name stated d at = ap stated (sym (name_is name first at))
map_get (first ∷ names) (suc place) name stated d at = map_get names place name stated d at.1

-- ---- the last name

abbrev pub front : List (List ℕ) → List (List ℕ)
front [] = []
front (_ ∷ []) = []
front (name ∷ next ∷ names) = name ∷ front (next ∷ names)

pub at_snoc : (names : List (List ℕ)) (name : List ℕ) (place : ℕ) (other : List ℕ) → At (names ++ name ∷ []) place other → (At names place other) ⊎ (same_name other name ≡ true)
at_snoc [] name zero other at = inr at
at_snoc [] name (suc place) other at = absurd at.1
at_snoc (first ∷ names) name zero other at = inl at
at_snoc (first ∷ names) name (suc place) other at = elim (at_snoc names name place other at.1) [ inl there ↦ inl (at.0, there) | inr same ↦ inr same ]

pub front_last : (names : List (List ℕ)) (name : List ℕ) → last_of names ≡ Some name → names ≡ front names ++ name ∷ []
front_last [] name e = cc
front_last (first ∷ []) name e = let same : first ≡ name = cc in ap (λ (known : List ℕ). known ∷ []) same
front_last (first ∷ next ∷ names) name e = ap (λ rest. first ∷ rest) (front_last (next ∷ names) name e)

pub last_none : (names : List (List ℕ)) → last_of names ≡ None → names ≡ []
last_none [] e = refl
last_none (first ∷ []) e = cc
last_none (first ∷ next ∷ names) e = let none : next ∷ names ≡ [] = last_none (next ∷ names) e in absurd (cc)

pub last_snoc : (names : List (List ℕ)) (name : List ℕ) → last_of (names ++ name ∷ []) ≡ Some name
last_snoc [] name = refl
last_snoc (first ∷ []) name = refl
last_snoc (first ∷ next ∷ names) name = last_snoc (next ∷ names) name

pub front_snoc : (names : List (List ℕ)) (name : List ℕ) → front (names ++ name ∷ []) ≡ names
front_snoc [] name = refl
front_snoc (first ∷ []) name = refl
front_snoc (first ∷ next ∷ names) name = ap (λ rest. first ∷ rest) (front_snoc (next ∷ names) name)

-- ---- each name at its first place

pub distinct_from-snoc : (seen names : List (List ℕ)) (name : List ℕ) → distinct_from seen (names ++ name ∷ []) ≡ with_new (distinct_from seen names) name
distinct_from-snoc seen [] name = refl
distinct_from-snoc seen (first ∷ names) name = distinct_from-snoc (with_new seen first) names name

new_distinct : (names : List (List ℕ)) (name : List ℕ) (there : Bool) → is_some (place_of names name) ≡ there → Distinct names → Distinct (if there then names else names ++ name ∷ [])
new_distinct names name true is distinct = distinct
new_distinct names name false is distinct = distinct_snoc names name distinct (not_there names name is)

pub all_distinct : (seen names : List (List ℕ)) → Distinct seen → Distinct (distinct_from seen names)
all_distinct seen [] distinct = distinct
all_distinct seen (name ∷ names) distinct = all_distinct (with_new seen name) names (new_distinct seen name (is_some (place_of seen name)) refl distinct)
