-- A name that differs from those before it isn't found among them.
use Rattle.std.proofs.Common.{◌≡◌, ◌+◌, ◌<◌, ◌∙◌, ap, subst, suc, map, drop, drop-cons, get_or, length, ℕ, Bool, true, false, List, [], ◌∷◌, ◌++◌, None, refl, sym}
use Rattle.std.specs.Cmp.Lexicographic.{same_text}
use Rattle.smps_words.specs.Names.{same_name, place_from, place_of}
use Rattle.scen_defs.specs.Lists.{Each}
use Rattle.scen_defs.specs.Valid.{Differ}

differs : (first name : List ℕ) (front rest : List (List ℕ)) → Each (λ other. other ≡ first → ⊥) (front ++ name ∷ rest) → name ≡ first → ⊥
differs first name [] rest h e = h.0 e
differs first name (other ∷ front) rest h e = differs first name front rest h.1 e

apart : (first name : List ℕ) (b : Bool) → same_name name first ≡ b → (name ≡ first → ⊥) → b ≡ false
apart first name true e h = absurd (h (same_text name first (sym e)))
apart first name false e h = refl

not_found : (start : ℕ) (front : List (List ℕ)) (name : List ℕ) (rest : List (List ℕ)) → Differ (front ++ name ∷ rest) → place_from start front name ≡ None
not_found start [] name rest h = refl
not_found start (first ∷ front) name rest h =
    let other : same_name name first ≡ false = apart first name (same_name name first) refl (differs first name front rest h.0) in
    rw other (not_found (start + 1) front name rest h.1)

pub is_new : (front : List (List ℕ)) (name : List ℕ) (rest : List (List ℕ)) → Differ (front ++ name ∷ rest) → place_of front name ≡ None
is_new front name rest h = not_found 0 front name rest h

-- the name of the next of some items isn't among those before it
pub next_is_new : {A : Type 0} (name_of : A → List ℕ) (items : List A) (front all : List (List ℕ)) (k : ℕ) (item : A) → front ++ map name_of (drop k items) ≡ all → Differ all
    → k < length items → item ≡ get_or items k item → place_of front (name_of item) ≡ None
next_is_new {A} name_of items front all k item e h l is =
    let next : drop k items ≡ item ∷ drop (suc k) items = drop-cons items k item l ∙ ap (λ (x : A). x ∷ drop (suc k) items) (sym is) in
    let seam : Differ (front ++ name_of item ∷ map name_of (drop (suc k) items)) = subst Differ (sym e ∙ ap (λ (xs : List A). front ++ map name_of xs) next) h in
    is_new front (name_of item) (map name_of (drop (suc k) items)) seam
