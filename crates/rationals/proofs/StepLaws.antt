-- What a step gives, when it passes, and what it then names.
use Rattle.std.proofs.Common.{◌≡◌, Bool, true, false, Result, Ok, Err, refl, sym, ap, ◌∙◌, subst, inl, inr}
use Rattle.std.specs.Prelude.{◌⊎◌}
use Rattle.rationals.specs.declared.Op.{Op}
use Rattle.rationals.specs.declared.Op.TheVariants.{Add, Mul}
use Rattle.rationals.specs.Rational.{ℚ, zero_ℚ, ◌*ℚ◌, zero_add_ℚ}
use Rattle.rationals.specs.Passes.{Operation, answer, too_wide, passes, walk, value_of, named_by, mul_walk, step_walk, add_product_walk, then_walk}
use Rattle.rationals.specs.Laws.{PassesLaws}
use Rattle.rationals.proofs.OrderMeaning.{answer_err}
use Rattle.rationals.proofs.WalkLaws.{walk_value}

module _ (s : Op) (x a b : ℚ) where
  -- the exact value
  value : ℚ
  value = value_of s x (a *ℚ b)

  pub step_fits : too_wide (value_of s x (a *ℚ b)) ≡ false → step_walk s x a b ≡ Ok (value_of s x (a *ℚ b))
  step_fits e = ap (λ w. answer w (named_by (too_wide (a *ℚ b)) s x a b) (value_of s x (a *ℚ b))) e

  named_passes : (w : Bool) → too_wide (a *ℚ b) ≡ w → too_wide (value_of s x (a *ℚ b)) ≡ true → passes (named_by w s x a b).op (named_by w s x a b).a (named_by w s x a b).b ≡ true
  named_passes true p e = p
  named_passes false p e = e

  pub step_passes : (o : Operation) → step_walk s x a b ≡ Err o → (too_wide (value_of s x (a *ℚ b)) ≡ true) × (passes o.op o.a o.b ≡ true)
  step_passes o e =
      let h = answer_err (too_wide (value_of s x (a *ℚ b))) (named_by (too_wide (a *ℚ b)) s x a b) o (value_of s x (a *ℚ b)) e in
      (h.0, subst (λ (q : Operation). passes q.op q.a q.b ≡ true) (sym h.1) (named_passes (too_wide (a *ℚ b)) refl h.0))

  one_of : (w : Bool) → (named_by w s x a b ≡ record { op = Mul; a = a; b = b }) ⊎ (named_by w s x a b ≡ record { op = s; a = x; b = a *ℚ b })
  one_of true = inl refl
  one_of false = inr refl

  pub step_names : (o : Operation) → step_walk s x a b ≡ Err o → (o ≡ record { op = Mul; a = a; b = b }) ⊎ (o ≡ record { op = s; a = x; b = a *ℚ b })
  step_names o e =
      let h = answer_err (too_wide (value_of s x (a *ℚ b))) (named_by (too_wide (a *ℚ b)) s x a b) o (value_of s x (a *ℚ b)) e in
      subst (λ (q : Operation). (q ≡ record { op = Mul; a = a; b = b }) ⊎ (q ≡ record { op = s; a = x; b = a *ℚ b })) (sym h.1) (one_of (too_wide (a *ℚ b)))

  -- where nothing passes, the value of a walk fits
  fits_of : (w : Bool) (o : Operation) (v u : ℚ) → answer w o u ≡ Ok v → w ≡ false
  fits_of true o v u e = absurd (cc)
  fits_of false o v u e = refl

  by_product : (p : Result ℚ Operation) (v : ℚ) → mul_walk a b ≡ p → then_walk p (walk s x) ≡ Ok v → step_walk s x a b ≡ Ok v
  by_product (Err o) v e h = absurd (cc)
  by_product (Ok p) v e h =
      let is : p ≡ a *ℚ b = walk_value Mul a b p e in
      let at : walk s x (a *ℚ b) ≡ Ok v = subst (λ (q : ℚ). walk s x q ≡ Ok v) is h in
      step_fits (fits_of (too_wide (value_of s x (a *ℚ b))) (record { op = s; a = x; b = a *ℚ b }) v (value_of s x (a *ℚ b)) at) ∙ ap Ok (sym (walk_value s x (a *ℚ b) v at))

  pub one_by_one : (v : ℚ) → then_walk (mul_walk a b) (walk s x) ≡ Ok v → step_walk s x a b ≡ Ok v
  one_by_one v h = by_product (mul_walk a b) v refl h

-- from 0 a step is the product
from_zero_by : (w : Bool) (a b : ℚ) → answer w (named_by w Add zero_ℚ a b) (a *ℚ b) ≡ answer w (record { op = Mul; a = a; b = b }) (a *ℚ b)
from_zero_by true a b = refl
from_zero_by false a b = refl

pub from_zero : (a b : ℚ) → add_product_walk zero_ℚ a b ≡ mul_walk a b
from_zero a b = ap (λ (v : ℚ). answer (too_wide v) (named_by (too_wide (a *ℚ b)) Add zero_ℚ a b) v) (zero_add_ℚ (a *ℚ b)) ∙ from_zero_by (too_wide (a *ℚ b)) a b

pub passes_laws : PassesLaws
passes_laws = record { step_fits = step_fits; step_passes = step_passes; step_names = step_names; one_by_one = one_by_one; from_zero = from_zero }
