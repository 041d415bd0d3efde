-- Tables by stage, and lists that are mapped.
use Rattle.std.proofs.Common.{◌≡◌, ◌∙◌, ap, ap₂, sym, refl, ℕ, zero, suc, ◌+◌, ◌<◌, List, [], ◌∷◌, ◌++◌, map, length, get_or, sum_by, Result, Ok, Err, arith}
use Rattle.std.proofs.lemmas.List.{get_or-map}
use Rattle.std.proofs.lemmas.List.Sums.{sum_by-cons}
use Rattle.rationals.specs.Passes.{Operation, then_walk}
use Rattle.scen_defs.specs.Lists.{Each}
use Rattle.build_defs.specs.Scenarios.{stages_from}

pub stages_length : (first count : ℕ) → length (stages_from first count) ≡ count
stages_length first zero = refl
stages_length first (suc count) = ap suc (stages_length (first + 1) count)

pub stages_at : (first count i : ℕ) → i < count → get_or (stages_from first count) i 0 ≡ first + i
stages_at first zero i below = absurd (omega (arith, below))
stages_at first (suc count) zero below = omega arith
stages_at first (suc count) (suc i) below = let rest = stages_at (first + 1) count i (omega (arith, below)) in omega (arith, rest)

-- a table by stage at a stage that is there
pub by_stage : {A : Type 0} (f : ℕ → A) (count i : ℕ) (d : A) → i < count → get_or (map f (stages_from 0 count)) i d ≡ f i
by_stage f count i d below =
    get_or-map f (stages_from 0 count) i 0 d (omega (arith, below, stages_length 0 count)) ∙ ap f (stages_at 0 count i below ∙ (let e : 0 + i ≡ i = omega arith in e))

pub map_push : {A B : Type 0} (f : A → B) (xs : List A) (x : A) → map f (xs ++ x ∷ []) ≡ map f xs ++ f x ∷ []
map_push f [] x = refl
map_push f (y ∷ xs) x = ap (λ rest. f y ∷ rest) (map_push f xs x)

-- the same at each member
pub map_each : {A B : Type 0} (f g : A → B) (xs : List A) → Each (λ x. f x ≡ g x) xs → map f xs ≡ map g xs
map_each f g [] all = refl
map_each f g (x ∷ xs) all = ap₂ (λ y ys. y ∷ ys) all.0 (map_each f g xs all.1)

pub map_map : {A B C : Type 0} (f : B → C) (g : A → B) (xs : List A) → map f (map g xs) ≡ map (λ x. f (g x)) xs
map_map f g [] = refl
map_map f g (x ∷ xs) = ap (λ rest. f (g x) ∷ rest) (map_map f g xs)

pub sum_map : {A B : Type 0} (f : B → ℕ) (g : A → B) (xs : List A) → sum_by f (map g xs) ≡ sum_by (λ x. f (g x)) xs
sum_map f g [] = refl
sum_map f g (x ∷ xs) = sum_by-cons f (g x) (map g xs) ∙ ap (λ n. f (g x) + n) (sum_map f g xs) ∙ sym (sum_by-cons (λ x. f (g x)) x xs)

pub sum_same : {A : Type 0} (f g : A → ℕ) (xs : List A) → ((x : A) → f x ≡ g x) → sum_by f xs ≡ sum_by g xs
sum_same f g [] same = refl
sum_same f g (x ∷ xs) same = sum_by-cons f x xs ∙ ap₂ (λ n m. n + m) (same x) (sum_same f g xs same) ∙ sym (sum_by-cons g x xs)

-- walks that go on in the same way
pub then_same : {X Y : Type 0} (w : Result X Operation) (f g : X → Result Y Operation) → ((x : X) → f x ≡ g x) → then_walk w f ≡ then_walk w g
then_same (Ok x) f g same = same x
then_same (Err p) f g same = refl

pub then_by : {X Y : Type 0} (w v : Result X Operation) (f g : X → Result Y Operation) → w ≡ v → ((x : X) → f x ≡ g x) → then_walk w f ≡ then_walk v g
then_by w v f g one same = ap (λ u. then_walk u f) one ∙ then_same v f g same
