-- Sums and products of rounded numbers.
use Rattle.std.proofs.Common.{◌≡◌, Option, Some, None, IfSome, sym, subst, Bool, true, false, [], ◌∷◌, refl, subst₂}
use Rattle.rationals.specs.Rational.{ℚ, zero_ℚ, ◌+ℚ◌, ◌-ℚ◌, ◌*ℚ◌, mul_comm_ℚ, ◌≤ℚ◌, at_most, at_most_true, at_most_false, lt_le_ℚ, le_add_ℚ, le_trans_ℚ, le_refl_ℚ}
use Rattle.rationals.specs.Rational.{by_facts, terms}
use Rattle.rationals.specs.Ring.Facts.{end, by_le, by_times}
use Rattle.rationals.specs.Choices.{pick}
use Rattle.rounded_sums.specs.declared.side.Side.{Side}
use Rattle.rounded_sums.specs.declared.side.Side.TheVariants.{Above, Below}
use Rattle.rounded_sums.specs.Sides.{Beside, opposite, factor_side}

pub beside_refl : (s : Side) (a : ℚ) → Beside s a a
beside_refl Above a = le_refl_ℚ a
beside_refl Below a = le_refl_ℚ a

pub beside_trans : (s : Side) (a b c : ℚ) → Beside s a b → Beside s b c → Beside s a c
beside_trans Above a b c h k = le_trans_ℚ h k
beside_trans Below a b c h k = le_trans_ℚ k h

pub beside_add : (s : Side) (a b c d : ℚ) → Beside s a b → Beside s c d → Beside s (a +ℚ c) (b +ℚ d)
beside_add Above a b c d h k = le_add_ℚ a b c d h k
beside_add Below a b c d h k = le_add_ℚ b a d c h k

-- one factor of a product
module _ (a b x : ℚ) where
  up : zero_ℚ ≤ℚ x → a ≤ℚ b → a *ℚ x ≤ℚ b *ℚ x
  up p h = by_facts (a ∷ b ∷ x ∷ []) (by_times p h end) (search terms depth 40) tt

  apart : b ≤ℚ a → zero_ℚ ≤ℚ a -ℚ b
  apart h = by_facts (a ∷ b ∷ []) (by_le 1 h end) (search terms depth 40) tt

  down : x ≤ℚ zero_ℚ → b ≤ℚ a → a *ℚ x ≤ℚ b *ℚ x
  down p h = let q : zero_ℚ ≤ℚ a -ℚ b = apart h in by_facts (a ∷ b ∷ x ∷ []) (by_times q p end) (search terms depth 40) tt

pub beside_left : (s : Side) (a b x : ℚ) → Beside (factor_side s x) a b → Beside s (a *ℚ x) (b *ℚ x)
beside_left s a b x h = go s (at_most zero_ℚ x) refl h
  where
    go : (s : Side) (c : Bool) → at_most zero_ℚ x ≡ c → Beside (pick c s (opposite s)) a b → Beside s (a *ℚ x) (b *ℚ x)
    go Above true e h = up a b x (at_most_true zero_ℚ x e) h
    go Below true e h = up b a x (at_most_true zero_ℚ x e) h
    go Above false e h = down a b x (lt_le_ℚ (at_most_false zero_ℚ x e)) h
    go Below false e h = down b a x (lt_le_ℚ (at_most_false zero_ℚ x e)) h

pub beside_right : (s : Side) (x a b : ℚ) → Beside (factor_side s x) a b → Beside s (x *ℚ a) (x *ℚ b)
beside_right s x a b h = subst₂ (Beside s) (mul_comm_ℚ a x) (mul_comm_ℚ b x) (beside_left s a b x h)

-- ---- the parts of a step
pub product_beside : (s : Side) (long short rounded : ℚ) (r : Option ℚ) → Beside (factor_side s short) long rounded
    → IfSome r (λ product. product ≡ rounded *ℚ short) → IfSome r (Beside s (long *ℚ short))
product_beside s long short rounded None h k = tt
product_beside s long short rounded (Some q) h k = subst (Beside s (long *ℚ short)) (sym k) (beside_left s long rounded short h)

pub then_product : (s : Side) (long short rounded : ℚ) (r : Option ℚ) → Beside (factor_side s long) short rounded
    → IfSome r (Beside s (long *ℚ rounded)) → IfSome r (Beside s (long *ℚ short))
then_product s long short rounded None h k = tt
then_product s long short rounded (Some q) h k = beside_trans s (long *ℚ short) (long *ℚ rounded) q (beside_right s long short rounded h) k

pub sum_beside : (s : Side) (a b first second : ℚ) (r : Option ℚ) → Beside s a first → Beside s b second
    → IfSome r (λ sum. sum ≡ first +ℚ second) → IfSome r (Beside s (a +ℚ b))
sum_beside s a b first second None h k e = tt
sum_beside s a b first second (Some q) h k e = subst (Beside s (a +ℚ b)) (sym e) (beside_add s a first b second h k)

pub then_sum : (s : Side) (from product rounded : ℚ) (r : Option ℚ) → Beside s product rounded
    → IfSome r (Beside s (from +ℚ rounded)) → IfSome r (Beside s (from +ℚ product))
then_sum s from product rounded None h k = tt
then_sum s from product rounded (Some q) h k =
    beside_trans s (from +ℚ product) (from +ℚ rounded) q (beside_add s from from product rounded (beside_refl s from) h) k

pub commuted : (s : Side) (a b : ℚ) (r : Option ℚ) → IfSome r (Beside s (b *ℚ a)) → IfSome r (Beside s (a *ℚ b))
commuted s a b None h = tt
commuted s a b (Some q) h = subst (λ (p : ℚ). Beside s p q) (mul_comm_ℚ b a) h
