-- The sum of a form and a multiple of another, entry by entry: where each of its operations ends well, the sum does.
use Rattle.std.proofs.Common.{◌≡◌, List, [], ◌∷◌, Result, Ok, Err, refl}
use Rattle.std.specs.declared.cmp.Ordering.{Ordering}
use Rattle.std.specs.declared.cmp.Ordering.TheVariants.{Less, Equal, Greater}
use Rattle.std.specs.Ordering.{nat_cmp}
use Rattle.std.specs.Cmp.{ranked}
use Rattle.rationals.specs.declared.Op.TheVariants.{Add, Mul}
use Rattle.rationals.specs.Rational.{ℚ}
use Rattle.rationals.specs.Sparse.{Entry}
use Rattle.rationals.specs.Passes.{Operation, add_product_walk, mul_walk, then_walk, then_value}
use Rattle.rationals.specs.Forms.{put, scaled_walk, by_order, merge_at, add_scaled_walk}
use Rattle.scen_defs.specs.Lists.{Each}
use Rattle.claim_laws.proofs.Passing.{EndsIn, IsWide, then_ends, walk_ends, step_ends}

pub changed_ends : (holds : Operation → Type 0) {X Y : Type 0} (f : X → Y) (w : Result X Operation) → EndsIn holds w
    → EndsIn holds (then_value f w)
changed_ends holds f (Ok x) h = tt
changed_ends holds f (Err o) h = h

-- w times the entries of g is added to those of f, of which this is known
module _ (holds : Operation → Type 0) (w : ℚ) (InF InG : Entry → Type 0)
    (products : (d : Entry) → InG d → EndsIn holds (mul_walk w d.value))
    (steps : (e d : Entry) → InF e → InG d → e.column ≡ d.column → EndsIn holds (add_product_walk e.value w d.value)) where
  scaled_ends : (g : List Entry) → Each InG g → EndsIn holds (scaled_walk w g)
  scaled_ends [] k = tt
  scaled_ends (d ∷ g) k = then_ends holds _ _ (products d k.0) (λ v. changed_ends holds (put d.column v) _ (scaled_ends g k.1))

  merge_ends : (e : Entry) (rest : List Entry → Result (List Entry) Operation) → InF e
      → ((g : List Entry) → Each InG g → EndsIn holds (rest g)) → (g : List Entry) → Each InG g → EndsIn holds (merge_at w e rest g)
  merge_ends e rest i h [] k = changed_ends holds (λ r. e ∷ r) (rest []) (h [] tt)
  merge_ends e rest i h (d ∷ g) k = go (nat_cmp e.column d.column) refl (merge_ends e rest i h g k.1)
    where
      go : (o : Ordering) → o ≡ nat_cmp e.column d.column → EndsIn holds (merge_at w e rest g) → EndsIn holds (by_order o
          (then_value (λ r. e ∷ r) (rest (d ∷ g)))
          (then_walk (add_product_walk e.value w d.value) (λ v. then_value (put e.column v) (rest g)))
          (then_walk (mul_walk w d.value) (λ v. then_value (put d.column v) (merge_at w e rest g))))
      go Less q again = changed_ends holds (λ r. e ∷ r) (rest (d ∷ g)) (h (d ∷ g) k)
      go Equal q again = then_ends holds _ _ (steps e d i k.0 (ranked e.column d.column Equal q))
          (λ v. changed_ends holds (put e.column v) (rest g) (h g k.1))
      go Greater q again = then_ends holds _ _ (products d k.0)
          (λ v. changed_ends holds (put d.column v) (merge_at w e rest g) again)

  pub sum_ends : (f g : List Entry) → Each InF f → Each InG g → EndsIn holds (add_scaled_walk f w g)
  sum_ends [] g h k = scaled_ends g k
  sum_ends (e ∷ f) g h k = merge_ends e (add_scaled_walk f w) h.0 (λ more l. sum_ends f more h.1 l) g k

-- it ends in no operation but one that passes
pub sum_wide : (w : ℚ) (f g : List Entry) → EndsIn IsWide (add_scaled_walk f w g)
sum_wide w f g = sum_ends IsWide w (λ e. Unit {0}) (λ d. Unit {0}) (λ d _. walk_ends Mul w d.value)
    (λ e d _ _ _. step_ends Add e.value w d.value) f g (every f) (every g)
  where
    every : (f : List Entry) → Each (λ (e : Entry). Unit {0}) f
    every [] = tt
    every (e ∷ f) = (tt, every f)
