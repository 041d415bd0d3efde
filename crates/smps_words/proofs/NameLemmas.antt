-- What an index set finds, and what the definitions find.
use Rattle.std.proofs.Common.{◌≡◌, ◌+◌, ◌∙◌, ◌++◌, ap, ℕ, Bool, true, false, List, [], ◌∷◌, Option, Some, None, map, refl, if◌then◌else◌}
use Rattle.std.specs.List.{list_any, position, position_from}
use Rattle.std.proofs.lemmas.List.{map-append}
use Rattle.std.proofs.lemmas.Iterator.Adapters.{position_from-zero}
use Rattle.smps_words.specs.Names.{same_name, place_from, place_of}

pub place_from_is : {K : Type 0} (h : K → List ℕ) (start : ℕ) (keys : List K) (name : List ℕ) → position_from (λ k. same_name name (h k)) start keys ≡ place_from start (map h keys) name
place_from_is h start [] name = refl
place_from_is h start (k ∷ keys) name = rw (place_from_is h (start + 1) keys name) refl

pub place_is : {K : Type 0} (h : K → List ℕ) (keys : List K) (name : List ℕ) → position (λ k. same_name name (h k)) keys ≡ place_of (map h keys) name
place_is h keys name = position_from-zero (λ k. same_name name (h k)) keys ∙ place_from_is h 0 keys name

pub either : (here : Bool) (start : ℕ) (rest : Option ℕ) → (if here then Some start else rest) ≡ None → (here ≡ false) × (rest ≡ None)
either false start rest e = (refl, e)
either true start rest e = cc

pub absent : {K : Type 0} (h : K → List ℕ) (start : ℕ) (keys : List K) (name : List ℕ) → place_from start (map h keys) name ≡ None → list_any (λ k. same_name name (h k)) keys ≡ false
absent h start [] name none = refl
absent h start (k ∷ keys) name none =
    let both : (same_name name (h k) ≡ false) × (place_from (start + 1) (map h keys) name ≡ None) = either (same_name name (h k)) start (place_from (start + 1) (map h keys) name) none in
    rw both.0 (absent h (start + 1) keys name both.1)

-- a name that isn't there goes last
pub added : {K : Type 0} (h : K → List ℕ) (keys new : List K) (k : K) (names : List (List ℕ)) → new ≡ (if list_any (λ other. same_name (h k) (h other)) keys then keys else keys ++ k ∷ []) →
    map h keys ≡ names → place_of names (h k) ≡ None → map h new ≡ names ++ h k ∷ []
added h keys new k names is_new view none =
    let gone : list_any (λ other. same_name (h k) (h other)) keys ≡ false = absent h 0 keys (h k) (ap (λ all. place_of all (h k)) view ∙ none) in
    let last : new ≡ keys ++ k ∷ [] = rw gone at is_new in
    ap (map h) last ∙ map-append h keys (k ∷ []) ∙ ap (λ front. front ++ h k ∷ []) view
