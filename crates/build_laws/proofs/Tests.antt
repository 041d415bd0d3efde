-- Keys are equal exactly where marks are the same.
use Rattle.std.proofs.Common.{◌≡◌, ◌∙◌, ap, sym, refl, ℕ, Bool, true, false, List, nat_eq, arith}
use Rattle.std.proofs.lemmas.Bool.Decides.{nat_tests}
use Rattle.smps_words.specs.Names.{same_name}
use Rattle.smps_words.proofs.NumberedNames.{same_name_refl}
use Rattle.core_defs.proofs.NameLemmas.{name_is}

alike : (n m : ℕ) → n ≡ m → nat_eq n m ≡ true
alike n m e = grind (arith, nat_tests, e)

same : (n m : ℕ) → nat_eq n m ≡ true → n ≡ m
same n m e = grind (arith, nat_tests, e)

same_names : (xs ys : List ℕ) → xs ≡ ys → same_name xs ys ≡ true
same_names xs ys e = ap (λ (zs : List ℕ). same_name zs ys) e ∙ same_name_refl ys

pub tests_same : (n m : ℕ) (xs ys : List ℕ) → (n ≡ m → xs ≡ ys) → (xs ≡ ys → n ≡ m) → nat_eq n m ≡ same_name xs ys
tests_same n m xs ys to back = go (nat_eq n m) (same_name xs ys) refl refl
  where
    go : (a b : Bool) → nat_eq n m ≡ a → same_name xs ys ≡ b → nat_eq n m ≡ same_name xs ys
    go true b is js = is ∙ sym (same_names xs ys (to (same n m is)))
    go false true is js = alike n m (back (name_is xs ys js)) ∙ sym js
    go false false is js = is ∙ sym js
