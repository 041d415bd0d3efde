-- Lists by their places.
use Rattle.std.proofs.Common.{◌≡◌, ◌∙◌, ap, ap₂, refl, ℕ, suc, ◌<◌, List, [], ◌∷◌, ◌++◌, map, length, get_or, arith}
use Rattle.std.proofs.lemmas.List.{length-map}
use Rattle.build_defs.specs.Scenarios.{stages_from}
use Rattle.build_laws.proofs.Tables.{stages_length}

-- lists that are as long, and have the same at each place
pub same_list : {A : Type 0} (xs ys : List A) (d : A) → length xs ≡ length ys → ((i : ℕ) → i < length xs → get_or xs i d ≡ get_or ys i d) → xs ≡ ys
same_list [] [] d long same = refl
same_list [] (y ∷ ys) d long same = absurd (omega (arith, long))
same_list (x ∷ xs) [] d long same = absurd (omega (arith, long))
same_list (x ∷ xs) (y ∷ ys) d long same = ap₂ ◌∷◌ (same 0 (omega arith)) (same_list xs ys d (omega (arith, long)) (λ i below. same (suc i) (omega (arith, below))))

pub map_both : {A B : Type 0} (f : A → B) (xs ys : List A) → map f (xs ++ ys) ≡ map f xs ++ map f ys
map_both f [] ys = refl
map_both f (x ∷ xs) ys = ap (λ rest. f x ∷ rest) (map_both f xs ys)

pub stages_long : {A : Type 0} (f : ℕ → A) (count : ℕ) → length (map f (stages_from 0 count)) ≡ count
stages_long f count = length-map (stages_from 0 count) f ∙ stages_length 0 count
