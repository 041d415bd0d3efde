-- Tests of a number's sign.
use Rattle.std.proofs.Common.{◌≡◌, ℕ, ◌≤ℤ◌, ◌<ℤ◌, subst, ℤ, negsuc, zero, suc, true, refl, sym, ap, ◌∙◌}
use Rattle.std.proofs.Common.{arith}
use Rattle.std.proofs.lemmas.Bool.{false≢true}
use Rattle.std.proofs.lemmas.Int.{ints}
use Rattle.std.specs.Prelude.{Bool, false, pos, int_lt, ◌*ℤ◌}
use Rattle.std.specs.Ordering.{int_eq, MatchOrdering}
use Rattle.std.specs.Cmp.{int_ranks}
use Rattle.std.specs.declared.cmp.Ordering.{Ordering}
use Rattle.std.specs.declared.cmp.Ordering.TheVariants.{Less, Equal, Greater}
use Rattle.rationals.specs.Rational.{ℚ, zero_ℚ, sign_ℚ, sign_of, same_ℚ, frac_self, frac_le, frac_le_to, ◌≤ℚ◌, ◌<ℚ◌}
use Rattle.rationals.specs.Rational.{◌÷◌, lt_of_not_le_ℚ}
use Rattle.rationals.specs.Order.{cross, compare}
use Rattle.rationals.proofs.Lowest.{zero_from_num, num_zero}

unfoldable pub is_above_zero : ℚ → Bool
is_above_zero q = int_lt (pos 0) (sign_ℚ q)

unfoldable pub is_below_zero : ℚ → Bool
is_below_zero q = int_lt (sign_ℚ q) (pos 0)

unfoldable pub is_zero : ℚ → Bool
is_zero q = int_eq (sign_ℚ q) (pos 0)

-- ---- what the tests say
neither : (z : ℤ) → int_eq (sign_of z) (pos 0) ≡ true → z ≡ pos 0
neither (pos zero) e = refl
neither (pos (suc n)) e = absurd (false≢true e)
neither (negsuc n) e = absurd (false≢true e)

pub is_zero_true : (a : ℚ) → is_zero a ≡ true → a ≡ zero_ℚ
unfolding is_zero
is_zero_true a e = zero_from_num a (neither a.num e)

pub is_zero_false : (a : ℚ) → is_zero a ≡ false → a ≡ zero_ℚ → ⊥
unfolding is_zero
is_zero_false a e h = false≢true (sym e ∙ ap (λ (z : ℤ). int_eq (sign_of z) (pos 0)) (num_zero a h))

not_above : (z : ℤ) (d : ℕ) → int_lt (pos 0) (sign_of z) ≡ false → (z *ℤ pos 1) ≤ℤ (pos 0 *ℤ pos d)
not_above (pos zero) d e = omega (arith, ints)
not_above (pos (suc n)) d e = absurd (false≢true (sym e))
not_above (negsuc n) d e = omega (arith, ints)

above : (z : ℤ) (d : ℕ) → int_lt (pos 0) (sign_of z) ≡ true → (z *ℤ pos 1) ≤ℤ (pos 0 *ℤ pos d) → ⊥
above (pos zero) d e h = false≢true e
above (pos (suc n)) d e h = omega (arith, ints)
above (negsuc n) d e h = false≢true e

not_below : (z : ℤ) (d : ℕ) → int_lt (sign_of z) (pos 0) ≡ false → (pos 0 *ℤ pos d) ≤ℤ (z *ℤ pos 1)
not_below (pos n) d e = omega (arith, ints)
not_below (negsuc n) d e = absurd (false≢true (sym e))

below : (z : ℤ) (d : ℕ) → int_lt (sign_of z) (pos 0) ≡ true → (pos 0 *ℤ pos d) ≤ℤ (z *ℤ pos 1) → ⊥
below (pos zero) d e h = false≢true e
below (pos (suc n)) d e h = false≢true e
below (negsuc n) d e h = omega (arith, ints)

pub is_above_zero_false : (a : ℚ) → is_above_zero a ≡ false → a ≤ℚ zero_ℚ
unfolding is_above_zero zero_ℚ
is_above_zero_false a e =
    subst (λ (x : ℚ). x ≤ℚ pos 0 ÷ 1) (frac_self a)
    (frac_le a.num (pos 0) a.den 1 a.den_pos (omega arith) (not_above a.num a.den e))

pub is_above_zero_true : (a : ℚ) → is_above_zero a ≡ true → zero_ℚ <ℚ a
unfolding is_above_zero zero_ℚ
is_above_zero_true a e = lt_of_not_le_ℚ (λ h. above a.num a.den e
    (frac_le_to a.num (pos 0) a.den 1 a.den_pos (omega arith) (subst (λ (x : ℚ). x ≤ℚ pos 0 ÷ 1) (sym (frac_self a)) h)))

pub is_below_zero_false : (a : ℚ) → is_below_zero a ≡ false → zero_ℚ ≤ℚ a
unfolding is_below_zero zero_ℚ
is_below_zero_false a e =
    subst (λ (x : ℚ). pos 0 ÷ 1 ≤ℚ x) (frac_self a)
    (frac_le (pos 0) a.num 1 a.den (omega arith) a.den_pos (not_below a.num a.den e))

pub is_below_zero_true : (a : ℚ) → is_below_zero a ≡ true → a <ℚ zero_ℚ
unfolding is_below_zero zero_ℚ
is_below_zero_true a e = lt_of_not_le_ℚ (λ h. below a.num a.den e
    (frac_le_to (pos 0) a.num 1 a.den (omega arith) a.den_pos (subst (λ (x : ℚ). pos 0 ÷ 1 ≤ℚ x) (sym (frac_self a)) h)))

-- what a comparison says
ranks : (a b : ℚ) (o : Ordering) → MatchOrdering o (cross a b <ℤ cross b a) (cross a b ≡ cross b a) (cross b a <ℤ cross a b)
    → MatchOrdering o (a <ℚ b) (a ≡ b) (b <ℚ a)
ranks a b Less h = record { lt = h }
ranks a b Equal h = same_ℚ a b h
ranks a b Greater h = record { lt = h }

pub compare_is : (a b : ℚ) (o : Ordering) → compare a b ≡ o → MatchOrdering o (a <ℚ b) (a ≡ b) (b <ℚ a)
compare_is a b o e = ranks a b o
    (subst (λ (p : Ordering). MatchOrdering p (cross a b <ℤ cross b a) (cross a b ≡ cross b a) (cross b a <ℤ cross a b)) e
    (int_ranks (cross a b) (cross b a)))
