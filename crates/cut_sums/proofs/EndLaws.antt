-- Which end a multiplier uses, by its sign.
use lib.Signed.{lt_z}
use Rattle.std.specs.Int.{w8}
use Rattle.std.proofs.Common.{◌≡◌, to_z, of_z, subst, ℤ, pos, zero, suc, negsuc, Bool, true, false, Option, Some, refl, sym, ap, ap₂, ◌∙◌}
use Rattle.rationals.specs.Rational.{ℚ, zero_ℚ, ◌≤ℚ◌, ◌<ℚ◌, at_most, at_most_true, at_most_false, not_le_of_lt_ℚ, lt_le_ℚ, le_of_same_ℚ, sign_ℚ, sign_of}
use Rattle.rationals.proofs.OrderMeaning.{sign_zero, sign_above, sign_below}
use Rattle.scen_defs.specs.Ends.{used_end}

abbrev ends : Option ℚ → Option ℚ → Bool → Bool → Option ℚ
ends low high a b = elim a [
  | false ↦ low
  | true ↦ elim b [ false ↦ high | true ↦ Some zero_ℚ ]
]

by_ends : (low high : Option ℚ) (y : ℚ) → used_end low high y ≡ ends low high (at_most y zero_ℚ) (at_most zero_ℚ y)
by_ends low high y = refl

yes : (a b : ℚ) → a ≤ℚ b → at_most a b ≡ true
yes a b h = go (at_most a b) refl
  where
    go : (t : Bool) → at_most a b ≡ t → at_most a b ≡ true
    go true p = p
    go false p = absurd (not_le_of_lt_ℚ (at_most_false a b p) h)

no : (a b : ℚ) → b <ℚ a → at_most a b ≡ false
no a b h = go (at_most a b) refl
  where
    go : (t : Bool) → at_most a b ≡ t → at_most a b ≡ false
    go true p = absurd (not_le_of_lt_ℚ h (at_most_true a b p))
    go false p = p

low_used : (low high : Option ℚ) (y : ℚ) → sign_ℚ y ≡ pos 1 → low ≡ used_end low high y
low_used low high y e = sym (by_ends low high y ∙ ap (λ a. ends low high a (at_most zero_ℚ y)) (no y zero_ℚ (sign_above y e)))

high_used : (low high : Option ℚ) (y : ℚ) → sign_ℚ y ≡ negsuc 0 → high ≡ used_end low high y
high_used low high y e =
    sym (by_ends low high y ∙ ap₂ (ends low high) (yes y zero_ℚ (lt_le_ℚ (sign_below y e))) (no zero_ℚ y (sign_below y e)))

none_used : (low high : Option ℚ) (y : ℚ) → sign_ℚ y ≡ pos 0 → Some zero_ℚ ≡ used_end low high y
none_used low high y e =
    let z = sign_zero y e in
    sym (by_ends low high y ∙ ap₂ (ends low high) (yes y zero_ℚ (le_of_same_ℚ z)) (yes zero_ℚ y (le_of_same_ℚ (sym z))))

-- what a sign in 8 bits says
above_means : (n : ℤ) → lt_z (pos 0) (to_z w8 (of_z w8 (sign_of n))) ≡ true → sign_of n ≡ pos 1
above_means (pos zero) h = absurd (cc)
above_means (pos (suc n)) h = refl
above_means (negsuc n) h = absurd (cc)

below_means : (n : ℤ) → lt_z (to_z w8 (of_z w8 (sign_of n))) (pos 0) ≡ true → sign_of n ≡ negsuc 0
below_means (pos zero) h = absurd (cc)
below_means (pos (suc n)) h = absurd (cc)
below_means (negsuc n) h = refl

zero_means : (n : ℤ) → lt_z (pos 0) (to_z w8 (of_z w8 (sign_of n))) ≡ false → lt_z (to_z w8 (of_z w8 (sign_of n))) (pos 0) ≡ false → sign_of n ≡ pos 0
zero_means (pos zero) h k = refl
zero_means (pos (suc n)) h k = absurd (cc)
zero_means (negsuc n) h k = absurd (cc)

pub above_uses : (low high : Option ℚ) (y : ℚ) (r : ℤ) → r ≡ sign_ℚ y → lt_z (pos 0) (to_z w8 (of_z w8 r)) ≡ true → low ≡ used_end low high y
above_uses low high y r e h = low_used low high y (above_means y.num (subst (λ z. lt_z (pos 0) (to_z w8 (of_z w8 z)) ≡ true) e h))

pub below_uses : (low high : Option ℚ) (y : ℚ) (r : ℤ) → r ≡ sign_ℚ y → lt_z (to_z w8 (of_z w8 r)) (pos 0) ≡ true → high ≡ used_end low high y
below_uses low high y r e h = high_used low high y (below_means y.num (subst (λ z. lt_z (to_z w8 (of_z w8 z)) (pos 0) ≡ true) e h))

pub zero_uses : (low high : Option ℚ) (y : ℚ) (r : ℤ) → r ≡ sign_ℚ y → lt_z (pos 0) (to_z w8 (of_z w8 r)) ≡ false → lt_z (to_z w8 (of_z w8 r)) (pos 0) ≡ false
    → Some zero_ℚ ≡ used_end low high y
zero_uses low high y r e h k =
    none_used low high y (zero_means y.num (subst (λ z. lt_z (pos 0) (to_z w8 (of_z w8 z)) ≡ false) e h) (subst (λ z. lt_z (to_z w8 (of_z w8 z)) (pos 0) ≡ false) e k))
