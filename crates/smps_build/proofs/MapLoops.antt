-- Loops that make a list of what a function gives for each item of another.
use Rattle.std.proofs.Common.{◌≡◌, ◌∙◌, ℕ, ◌+◌, ◌<◌, ◌≤◌, List, [], ◌∷◌, ◌++◌, length, get_or, drop, map, ap, sym, subst, append_assoc, append-nil, drop_of_length-le}
use Rattle.scen_defs.proofs.NodeReads.{drop_read}

-- one item more
pub map_more : {A B : Type 0} (f : A → B) (xs : List A) (i : ℕ) (x : A) (all more : List B) (y : B) → i < length xs → x ≡ get_or xs i x → y ≡ f x → more ≡ all ++ y ∷ []
    → more ++ map f (drop (i + 1) xs) ≡ all ++ map f (drop i xs)
map_more {A} {B} f xs i x all more y h e p m =
    ap (λ (made : List B). made ++ map f (drop (i + 1) xs)) m
    ∙ append_assoc all (y ∷ []) (map f (drop (i + 1) xs))
    ∙ ap (λ (one : B). all ++ one ∷ map f (drop (i + 1) xs)) p
    ∙ ap (λ (left : List A). all ++ map f left) (sym (drop_read xs i x h e))

-- none is left
pub map_end : {A B : Type 0} (f : A → B) (xs : List A) (i : ℕ) (all whole : List B) → length xs ≤ i → all ++ map f (drop i xs) ≡ whole → all ≡ whole
map_end {A} {B} f xs i all whole h w = sym (append-nil all) ∙ subst (λ (left : List A). all ++ map f left ≡ whole) (drop_of_length-le xs h) w
