-- The laws of numbers and comparisons.
use Rattle.std.proofs.Common.{◌≡◌, zero, suc, refl, ap, arith, ℤ, pos, negsuc}
use Rattle.std.specs.Prelude.{◌<ℤ◌}
use Rattle.std.proofs.lemmas.Int.{ints}
use lib.IntN.{zero-*ℤ}
use Rattle.rationals.specs.Integers.{mul_one_ℤ}
use Rattle.rationals.specs.Laws.{FieldLaws, ComparisonLaws}
use Rattle.rationals.specs.OrderLaws.{order_total}
use Rattle.rationals.specs.Rational.{ℚ, zero_ℚ, ◌<ℚ◌, sign_of, add_comm_ℚ, add_assoc_ℚ, add_zero_ℚ, add_neg_ℚ, mul_comm_ℚ, mul_assoc_ℚ, mul_one_ℚ, mul_add_ℚ, div_mul_ℚ, le_or_ge_ℚ, le_trans_ℚ, le_antisym_ℚ, not_le_of_lt_ℚ, lt_of_not_le_ℚ, le_add_ℚ, mul_nonneg_ℚ, zero_lt_one_ℚ}
use Rattle.rationals.proofs.GcdLemmas.{gcd-one}
use Rattle.rationals.proofs.Lowest.{parts_of, num_zero}
use Rattle.rationals.proofs.OrderMeaning.{compare_means, sign_zero, sign_above}

pub field_laws : FieldLaws
field_laws = record {
  sum_commutes = add_comm_ℚ;
  sum_associates = add_assoc_ℚ;
  sum_with_zero = add_zero_ℚ;
  sum_with_negative = add_neg_ℚ;
  product_commutes = mul_comm_ℚ;
  product_associates = mul_assoc_ℚ;
  product_with_one = mul_one_ℚ;
  product_of_a_sum = mul_add_ℚ;
  quotient_times = div_mul_ℚ;
  order_is_total = le_or_ge_ℚ;
  order_is_transitive = λ a b c. le_trans_ℚ {a = a} {b = b} {c = c};
  order_is_antisymmetric = λ a b. le_antisym_ℚ {a = a} {b = b};
  below_is_not_above = λ a b. (not_le_of_lt_ℚ {a = a} {b = b}, lt_of_not_le_ℚ {a = a} {b = b});
  order_of_sums = le_add_ℚ;
  order_of_products = mul_nonneg_ℚ;
  zero_below_one = zero_lt_one_ℚ;
}

-- ---- signs

above_sign : (z : ℤ) → pos 0 <ℤ z → sign_of z ≡ pos 1
above_sign (pos zero) h = absurd (omega (arith, ints))
above_sign (pos (suc n)) h = refl
above_sign (negsuc n) h = absurd (omega (arith, ints))

above_num : (a : ℚ) → zero_ℚ <ℚ a → pos 0 <ℤ a.num
unfolding zero_ℚ
above_num a h =
    let p = parts_of (pos 0) 1 (omega arith) (gcd-one 0) in
    rw (p.num, p.den, zero-*ℤ (pos a.den), mul_one_ℤ a.num) at h.lt

pub comparison_laws : ComparisonLaws
comparison_laws = record {
  compared = compare_means;
  total = order_total;
  zero = λ a. (sign_zero a, λ e. ap sign_of (num_zero a e));
  above = λ a. (sign_above a, λ h. above_sign a.num (above_num a h));
}
