-- Lists by their places.
use Rattle.std.proofs.Common.{◌≡◌, refl, ℕ, zero, suc, ◌<◌, ◌≤◌, Bool, true, List, [], ◌∷◌, length, get_or, arith}
use Rattle.scen_defs.specs.Lists.{Each, passes_at}

pub each_get : {A : Type 0} (P : A → Type 0) (xs : List A) (i : ℕ) (d : A) → Each P xs → P d → P (get_or xs i d)
each_get P [] i d all one = one
each_get P (x ∷ xs) zero d all one = all.0
each_get P (x ∷ xs) (suc i) d all one = each_get P xs i d all.1 one

pub each_at : {A : Type 0} (P : A → Type 0) (xs : List A) (i : ℕ) (d : A) → Each P xs → i < length xs → P (get_or xs i d)
each_at P [] i d all below = absurd (omega (arith, below))
each_at P (x ∷ xs) zero d all below = all.0
each_at P (x ∷ xs) (suc i) d all below = each_at P xs i d all.1 (omega (arith, below))

pub each_from : {A : Type 0} (P : A → Type 0) (xs : List A) (d : A) → ((i : ℕ) → i < length xs → P (get_or xs i d)) → Each P xs
each_from P [] d all = tt
each_from P (x ∷ xs) d all = (all 0 (omega arith), each_from P xs d (λ i below. all (suc i) (omega (arith, below))))

pub passes_get : {A : Type 0} (test : A → Bool) (n : ℕ) (xs : List A) (d : A) → passes_at test n xs ≡ true → (n < length xs) × (test (get_or xs n d) ≡ true)
passes_get test n [] d passes = cc
passes_get test zero (x ∷ xs) d passes = (omega arith, passes)
passes_get test (suc n) (x ∷ xs) d passes = let later = passes_get test n xs d passes in (omega (arith, later.0), later.1)

pub get_passes : {A : Type 0} (test : A → Bool) (n : ℕ) (xs : List A) (d : A) → n < length xs → test (get_or xs n d) ≡ true → passes_at test n xs ≡ true
get_passes test n [] d below is = absurd (omega (arith, below))
get_passes test zero (x ∷ xs) d below is = is
get_passes test (suc n) (x ∷ xs) d below is = get_passes test n xs d (omega (arith, below)) is

pub past_end : {A : Type 0} (xs : List A) (i : ℕ) (d : A) → length xs ≤ i → get_or xs i d ≡ d
past_end [] i d past = refl
past_end (x ∷ xs) zero d past = absurd (omega (arith, past))
past_end (x ∷ xs) (suc i) d past = past_end xs i d (omega (arith, past))
