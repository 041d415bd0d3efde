-- What an `i8` that holds a sign compares as.
use Rattle.std.proofs.Common.{Bool, true, false, to_z, of_z, ◌≡◌, ℤ, pos, negsuc, zero, suc, refl, sym, subst}
use Rattle.std.specs.Prelude.{int_lt}
use Rattle.std.specs.Int.{w8}
use lib.Signed.{lt_z}
use Rattle.rationals.specs.Rational.{ℚ, zero_ℚ, ne_of_gt_ℚ, sign_ℚ, sign_of}
use Rattle.lp_defs.specs.Tests.{is_zero, is_above_zero, is_below_zero, is_above_zero_true, is_zero_true, is_zero_false}

pub above : (r : ℤ) (v : ℚ) → r ≡ sign_ℚ v → lt_z (pos 0) (to_z w8 (of_z w8 r)) ≡ is_above_zero v
unfolding is_above_zero
above r v e = subst (λ (z : ℤ). lt_z (pos 0) (to_z w8 (of_z w8 z)) ≡ int_lt (pos 0) (sign_ℚ v)) (sym e) (go v.num)
  where
    go : (z : ℤ) → lt_z (pos 0) (to_z w8 (of_z w8 (sign_of z))) ≡ int_lt (pos 0) (sign_of z)
    go (pos zero) = refl
    go (pos (suc n)) = refl
    go (negsuc n) = refl

pub below : (r : ℤ) (v : ℚ) → r ≡ sign_ℚ v → lt_z (to_z w8 (of_z w8 r)) (pos 0) ≡ is_below_zero v
unfolding is_below_zero
below r v e = subst (λ (z : ℤ). lt_z (to_z w8 (of_z w8 z)) (pos 0) ≡ int_lt (sign_ℚ v) (pos 0)) (sym e) (go v.num)
  where
    go : (z : ℤ) → lt_z (to_z w8 (of_z w8 (sign_of z))) (pos 0) ≡ int_lt (sign_of z) (pos 0)
    go (pos zero) = refl
    go (pos (suc n)) = refl
    go (negsuc n) = refl

pub zero_is : (r : Bool) (v : ℚ) → (r ≡ true → v ≡ zero_ℚ) → (v ≡ zero_ℚ → r ≡ true) → r ≡ is_zero v
zero_is r v f g = go (is_zero v) refl r f g
  where
    go : (b : Bool) → is_zero v ≡ b → (r : Bool) → (r ≡ true → v ≡ zero_ℚ) → (v ≡ zero_ℚ → r ≡ true) → r ≡ b
    go true e r f g = g (is_zero_true v e)
    go false e true f g = absurd (is_zero_false v e (f refl))
    go false e false f g = refl

pub above_is_nonzero : (v : ℚ) → is_above_zero v ≡ true → v ≡ zero_ℚ → ⊥
above_is_nonzero v e = ne_of_gt_ℚ (is_above_zero_true v e)
