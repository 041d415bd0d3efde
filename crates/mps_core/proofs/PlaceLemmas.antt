-- The last of some names.
use Rattle.std.proofs.Common.{◌++◌, ◌≡◌, ◌-◌, ◌+◌, ◌∙◌, ap, ℕ, suc, List, [], ◌∷◌, Option, Some, None, length, get_or, refl, sym, arith}
use Rattle.core_defs.specs.Filed.{Filed, last_of, closed, closed_at, part_of}

pub last_is : (names : List (List ℕ)) (place : ℕ) → place + 1 ≡ length names → last_of names ≡ Some (get_or names place [])
last_is [] place is = absurd (omega arith)
last_is (name ∷ []) place is = let first : place ≡ 0 = omega arith in rw first refl
last_is (name ∷ next ∷ names) place is =
    let more : place ≡ suc (place - 1) = omega arith in
    last_is (next ∷ names) (place - 1) (omega arith) ∙ sym (ap (λ (at : ℕ). Some (get_or (name ∷ next ∷ names) at [])) more)

last_none : (names : List (List ℕ)) → length names ≡ 0 → last_of names ≡ None
last_none [] none = refl
last_none (name ∷ names) none = absurd (omega arith)

pub closed_none : (f : Filed) → length f.names ≡ 0 → closed f ≡ f
unfolding closed
closed_none f none = ap (λ (last : Option (List ℕ)). closed_at last f) (last_none f.names none)

pub closed_some : (f : Filed) → (length f.names ≡ 0 → ⊥) → closed f ≡ record f { parts = f.parts ++ part_of f.costs f.terms ∷ []; costs = []; terms = [] }
unfolding closed
closed_some f some = ap (λ (last : Option (List ℕ)). closed_at last f) (last_is f.names (length f.names - 1) (omega arith))

pub ruleset closed_lemmas = (closed_none, closed_some)
