-- Two numbers over their least common denominator.
use Rattle.std.proofs.Common.{◌≡◌, ℕ, zero, suc, ◌*◌, ◌/◌, ◌<◌, sym, ap, ap₂, ◌∙◌, arith, ℤ, pos, mul-pos}
use Rattle.std.specs.Prelude.{◌+ℤ◌, ◌*ℤ◌}
use native.Mathlib.Nat.{div-mul_cancel, mul_comm, mul_assoc}
use Rattle.rationals.specs.Gcd.{gcd}
use Rattle.rationals.specs.OrderLaws.{times-times}
use Rattle.rationals.specs.Rational.{ℚ, ◌÷◌, ◌+ℚ◌, frac_self, frac_same, frac-add}
use Rattle.rationals.proofs.GcdLemmas.{gcd-is}
use Rattle.rationals.proofs.IntLemmas.{add-times}

-- the numerators of a and of b over the least common denominator
abbrev pub left_part : ℚ → ℚ → ℤ
left_part a b = a.num *ℤ pos (b.den / gcd a.den b.den)

abbrev pub right_part : ℚ → ℚ → ℤ
right_part a b = b.num *ℤ pos (a.den / gcd a.den b.den)

abbrev pub common_den : ℚ → ℚ → ℕ
common_den a b = a.den * (b.den / gcd a.den b.den)

module _ (a b : ℚ) where
  g : ℕ
  g = gcd a.den b.den

  across : b.den / gcd a.den b.den * gcd a.den b.den ≡ b.den
  across = div-mul_cancel (gcd a.den b.den) (gcd-is a.den b.den).1

  below : a.den / gcd a.den b.den * gcd a.den b.den ≡ a.den
  below = div-mul_cancel (gcd a.den b.den) (gcd-is a.den b.den).0

  positive : (n k m : ℕ) → 0 < n → m * k ≡ n → 0 < m
  positive n k zero h e = absurd (omega (arith, e))
  positive n k (suc m) h e = omega arith

  pub common_above : 0 < common_den a b
  common_above = mul-pos a.den_pos (positive b.den (gcd a.den b.den) (b.den / gcd a.den b.den) b.den_pos across)

  -- the common denominator is that of b times what a has more
  other_way : common_den a b ≡ b.den * (a.den / gcd a.den b.den)
  other_way = cross_over a.den b.den (gcd a.den b.den) (a.den / gcd a.den b.den) (b.den / gcd a.den b.den) below across
    where
      cross_over : (d e k p q : ℕ) → p * k ≡ d → q * k ≡ e → d * q ≡ e * p
      cross_over d e k p q x y = ap (λ i. i * q) (sym x) ∙ mul_assoc p k q ∙ ap (λ i. p * i) (mul_comm k q ∙ y) ∙ mul_comm p e

  pub left_is : left_part a b ÷ common_den a b ≡ a
  left_is =
      frac_same (left_part a b) a.num (common_den a b) a.den common_above a.den_pos
      (times-times a.num (b.den / gcd a.den b.den) a.den ∙ ap (λ k. a.num *ℤ pos k) (mul_comm (b.den / gcd a.den b.den) a.den))
      ∙ frac_self a

  pub right_is : right_part a b ÷ common_den a b ≡ b
  right_is =
      frac_same (right_part a b) b.num (common_den a b) b.den common_above b.den_pos
      (times-times b.num (a.den / gcd a.den b.den) b.den ∙ ap (λ k. b.num *ℤ pos k) (mul_comm (a.den / gcd a.den b.den) b.den ∙ sym other_way))
      ∙ frac_self b

  pub sum_is : (left_part a b +ℤ right_part a b) ÷ common_den a b ≡ a +ℚ b
  sum_is =
      frac_same (left_part a b +ℤ right_part a b) (left_part a b *ℤ pos (common_den a b) +ℤ right_part a b *ℤ pos (common_den a b)) (common_den a b) (common_den a b * common_den a b)
      common_above (mul-pos common_above common_above)
      (sym (times-times (left_part a b +ℤ right_part a b) (common_den a b) (common_den a b)) ∙ ap (λ z. z *ℤ pos (common_den a b)) (add-times (left_part a b) (right_part a b) (common_den a b)))
      ∙ sym (frac-add (left_part a b) (right_part a b) (common_den a b) (common_den a b) common_above common_above)
      ∙ ap₂ ◌+ℚ◌ left_is right_is
