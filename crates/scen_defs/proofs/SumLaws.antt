-- Sums over lists of numbers, and over pairs.
use Rattle.std.proofs.Common.{◌≡◌, ℕ, Bool, true, false, eqb, List, [], ◌∷◌, inl, inr, refl, sym, ap, ap₂, subst, ◌∙◌}
use Rattle.std.proofs.lemmas.Bool.{eq-eqb, ne_eqb}
use Rattle.rationals.specs.Rational.{ℚ, zero_ℚ, one_ℚ, ◌+ℚ◌, ◌*ℚ◌, ◌-ℚ◌, ◌≤ℚ◌, by_ring, by_eqs, terms, le_refl_ℚ, le_add_ℚ, zero_add_ℚ, add_zero_ℚ, zero_mul_ℚ}
use Rattle.rationals.specs.Ring.Eqs.{done, by_eq}
use Rattle.rationals.specs.Sums.{sum_ℚ, sum-swap, sum-add, sum-zero}
use Rattle.rationals.specs.Sparse.{Entry, product, coefficient, value_if}
use Rattle.scen_defs.specs.Lists.{Each, Once, keep}

pub each-map : {A : Type 0} {P Q : A → Type 0} (f : (a : A) → P a → Q a) (xs : List A) → Each P xs → Each Q xs
each-map f [] h = tt
each-map f (x ∷ xs) h = (f x h.0, each-map f xs h.1)

pub each-both : {A : Type 0} {P Q R : A → Type 0} (f : (a : A) → P a → Q a → R a) (xs : List A) → Each P xs → Each Q xs → Each R xs
each-both f [] h k = tt
each-both f (x ∷ xs) h k = (f x h.0 k.0, each-both f xs h.1 k.1)

pub each-once : (P : ℕ → Type 0) (n : ℕ) (xs : List ℕ) → Once n xs → Each P xs → P n
each-once P n [] h k = absurd h
each-once P n (x ∷ xs) (inl h) k = subst P h.0 k.0
each-once P n (x ∷ xs) (inr h) k = each-once P n xs h.1 k.1

pub sum-ext : {A : Type 0} (f g : A → ℚ) → ((a : A) → f a ≡ g a) → (xs : List A) → sum_ℚ f xs ≡ sum_ℚ g xs
sum-ext f g h [] = refl
sum-ext f g h (x ∷ xs) = ap₂ ◌+ℚ◌ (h x) (sum-ext f g h xs)

pub sum-same : {A : Type 0} (f g : A → ℚ) (xs : List A) → Each (λ a. f a ≡ g a) xs → sum_ℚ f xs ≡ sum_ℚ g xs
sum-same f g [] h = refl
sum-same f g (x ∷ xs) h = ap₂ ◌+ℚ◌ h.0 (sum-same f g xs h.1)

pub sum-below : {A : Type 0} (f g : A → ℚ) (xs : List A) → Each (λ a. f a ≤ℚ g a) xs → sum_ℚ f xs ≤ℚ sum_ℚ g xs
sum-below f g [] h = le_refl_ℚ zero_ℚ
sum-below f g (x ∷ xs) h = le_add_ℚ _ _ _ _ h.0 (sum-below f g xs h.1)

pub sum-sub : {A : Type 0} (f g : A → ℚ) (xs : List A) → sum_ℚ (λ x. f x -ℚ g x) xs ≡ sum_ℚ f xs -ℚ sum_ℚ g xs
sum-sub f g [] = by_ring [] (search terms depth 40) tt
sum-sub f g (x ∷ xs) = by_eqs (f x ∷ g x ∷ sum_ℚ f xs ∷ sum_ℚ g xs ∷ sum_ℚ (λ x. f x -ℚ g x) xs ∷ []) (by_eq one_ℚ (sum-sub f g xs) done) (search terms depth 40) tt

-- a constant factor behind
pub sum-times : {A : Type 0} (c : ℚ) (f : A → ℚ) (xs : List A) → sum_ℚ (λ x. f x *ℚ c) xs ≡ sum_ℚ f xs *ℚ c
sum-times c f [] = sym (zero_mul_ℚ c)
sum-times c f (x ∷ xs) = by_eqs (c ∷ f x ∷ sum_ℚ f xs ∷ sum_ℚ (λ x. f x *ℚ c) xs ∷ []) (by_eq one_ℚ (sum-times c f xs) done) (search terms depth 40) tt

-- only the number n counts
pub sum-none : (f : ℕ → ℚ) (xs : List ℕ) → Each (λ x. f x ≡ zero_ℚ) xs → sum_ℚ f xs ≡ zero_ℚ
sum-none f xs h = sum-same f (λ x. zero_ℚ) xs h ∙ sum-zero xs

pub sum-pick : (n : ℕ) (f : ℕ → ℚ) → (xs : List ℕ) → Once n xs → Each (λ x. (x ≡ n → ⊥) → f x ≡ zero_ℚ) xs → sum_ℚ f xs ≡ f n
sum-pick n f [] h z = absurd h
sum-pick n f (x ∷ xs) (inl h) z = ap₂ ◌+ℚ◌ (ap f h.0) (sum-none f xs (each-both (λ a p q. q p) xs h.1 z.1)) ∙ add_zero_ℚ (f n)
sum-pick n f (x ∷ xs) (inr h) z = ap₂ ◌+ℚ◌ (z.0 h.0) (sum-pick n f xs h.1 z.1) ∙ zero_add_ℚ (f n)

-- ---- sums over what passes a test
pub value_if-times : (b : Bool) (v w : ℚ) → value_if b v *ℚ w ≡ value_if b (v *ℚ w)
value_if-times true v w = refl
value_if-times false v w = zero_mul_ℚ w

pub sum-keep : {A : Type 0} (test : A → Bool) (f : A → ℚ) (xs : List A) → sum_ℚ f (keep test xs) ≡ sum_ℚ (λ x. value_if (test x) (f x)) xs
sum-keep test f [] = refl
sum-keep test f (x ∷ xs) = elim (test x) as (λ b. sum_ℚ f (elim b [ true ↦ x ∷ keep test xs | false ↦ keep test xs ]) ≡ value_if b (f x) +ℚ sum_ℚ (λ x. value_if (test x) (f x)) xs) [
  | true ↦ ap (λ s. f x +ℚ s) (sum-keep test f xs)
  | false ↦ sum-keep test f xs ∙ sym (zero_add_ℚ _)
]

pub sum-if : {A : Type 0} (b : Bool) (f : A → ℚ) (xs : List A) → sum_ℚ (λ x. value_if b (f x)) xs ≡ value_if b (sum_ℚ f xs)
sum-if true f xs = refl
sum-if false f xs = sum-zero xs

-- ---- a form's value by its coefficients, over any numbers that have each of its columns once
pub product-over : (f : List Entry) (x : ℕ → ℚ) (ks : List ℕ) → Each (λ (e : Entry). Once e.column ks) f → sum_ℚ (λ k. coefficient f k *ℚ x k) ks ≡ product f x
product-over [] x ks h = sum-none (λ k. zero_ℚ *ℚ x k) ks (all-zero ks)
  where
    all-zero : (ks : List ℕ) → Each (λ k. zero_ℚ *ℚ x k ≡ zero_ℚ) ks
    all-zero [] = tt
    all-zero (k ∷ ks) = (zero_mul_ℚ (x k), all-zero ks)
product-over (e ∷ f) x ks h =
    sum-ext (λ k. coefficient (e ∷ f) k *ℚ x k) (λ k. value_if (eqb e.column k) e.value *ℚ x k +ℚ coefficient f k *ℚ x k) (λ k. by_ring (value_if (eqb e.column k) e.value ∷ coefficient f k ∷ x k ∷ []) (search terms depth 40) tt) ks
    ∙ sum-add (λ k. value_if (eqb e.column k) e.value *ℚ x k) (λ k. coefficient f k *ℚ x k) ks
    ∙ ap₂ ◌+ℚ◌ (sum-pick e.column (λ k. value_if (eqb e.column k) e.value *ℚ x k) ks h.0 (others ks) ∙ ap (λ b. value_if b e.value *ℚ x e.column) (eq-eqb e.column e.column refl)) (product-over f x ks h.1)
  where
    others : (ks : List ℕ) → Each (λ k. (k ≡ e.column → ⊥) → value_if (eqb e.column k) e.value *ℚ x k ≡ zero_ℚ) ks
    others [] = tt
    others (k ∷ ks) = ((λ ne. ap (λ b. value_if b e.value *ℚ x k) (ne_eqb e.column k (λ p. ne (sym p))) ∙ zero_mul_ℚ (x k)), others ks)

-- ---- two double sums exchange
pub sum-swap4 : {A B : Type 0} (xs : List ℕ) (as_of : ℕ → List A) (ys : List ℕ) (bs_of : ℕ → List B) (g : ℕ → A → ℕ → B → ℚ)
    → sum_ℚ (λ m. sum_ℚ (λ a. sum_ℚ (λ n. sum_ℚ (λ b. g m a n b) (bs_of n)) ys) (as_of m)) xs
    ≡ sum_ℚ (λ n. sum_ℚ (λ b. sum_ℚ (λ m. sum_ℚ (λ a. g m a n b) (as_of m)) xs) (bs_of n)) ys
sum-swap4 xs as_of ys bs_of g =
    sum-ext _ _ (λ m. sum-swap (λ a n. sum_ℚ (λ b. g m a n b) (bs_of n)) (as_of m) ys) xs
    ∙ sum-swap (λ m n. sum_ℚ (λ a. sum_ℚ (λ b. g m a n b) (bs_of n)) (as_of m)) xs ys
    ∙ sum-ext _ _ (λ n. sum-ext _ _ (λ m. sum-swap (λ a b. g m a n b) (as_of m) (bs_of n)) xs ∙ sum-swap (λ m b. sum_ℚ (λ a. g m a n b) (as_of m)) xs (bs_of n)) ys

pub each-three : {A : Type 0} {P Q R S : A → Type 0} (f : (a : A) → P a → Q a → R a → S a) (xs : List A) → Each P xs → Each Q xs → Each R xs → Each S xs
each-three f [] h k l = tt
each-three f (x ∷ xs) h k l = (f x h.0 k.0 l.0, each-three f xs h.1 k.1 l.1)
