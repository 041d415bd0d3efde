-- A whole number and a product of two, added, all three below 2 ^ 63 in size.
use Rattle.std.proofs.Common.{◌≡◌, ℕ, ◌+◌, ◌<◌, ◌≤◌, ◌^◌, sym, ◌∙◌, ap, ap₂, arith, lit≤, ℤ, to_z, of_z}
use Rattle.std.specs.Prelude.{◌+ℤ◌, ◌*ℤ◌, unsigned_abs, FitsSigned}
use Rattle.std.specs.Int.{w128}
use Rattle.std.proofs.lemmas.Int.{ints, unsigned_abs-mul, fits_signed_from_abs}
use Rattle.std.proofs.lemmas.Nat.{mul-le}
use native.Mathlib.Nat.{lt_of_lt_of_le, le_of_lt, le_trans}
use Rattle.ratio128.specs.Ratio.{Ratio, IsFrac, IsShort, sum_of, product_of}
use Rattle.ratio128.proofs.RatioLemmas.{passed, small_product_passed, sum_of_whole, product_of_whole, frac_whole}

-- a product of two numbers below 2 ^ 63 in size
product_size : (b c : ℤ) → unsigned_abs b < 2 ^ 63 → unsigned_abs c < 2 ^ 63 → unsigned_abs (b *ℤ c) ≤ 2 ^ 126
product_size b c p q = rw (unsigned_abs-mul b c) (le_trans (mul-le (unsigned_abs b) (unsigned_abs c) (2 ^ 63) (2 ^ 63) (le_of_lt p) (le_of_lt q)) (lit≤ tt))

size_below : (a p : ℤ) (m n : ℕ) → unsigned_abs a < m → unsigned_abs p ≤ n → unsigned_abs (a +ℤ p) < m + n
size_below a p m n h k = omega (arith, ints, h, k)

step_small : (a b c : ℤ) → unsigned_abs a < 2 ^ 63 → unsigned_abs b < 2 ^ 63 → unsigned_abs c < 2 ^ 63 → unsigned_abs (a +ℤ b *ℤ c) < 2 ^ 127
step_small a b c p q r = lt_of_lt_of_le (size_below a (b *ℤ c) (2 ^ 63) (2 ^ 126) p (product_size b c q r)) (lit≤ tt)

-- what 128 bits give
pub step_passed : (a b c : ℤ) → unsigned_abs a < 2 ^ 63 → unsigned_abs b < 2 ^ 63 → unsigned_abs c < 2 ^ 63
    → to_z w128 (of_z w128 (to_z w128 (of_z w128 a) +ℤ to_z w128 (of_z w128 (to_z w128 (of_z w128 b) *ℤ to_z w128 (of_z w128 c))))) ≡ a +ℤ b *ℤ c
step_passed a b c p q r = rw (small_product_passed b c q r, passed a (lt_of_lt_of_le p (lit≤ tt))) (passed (a +ℤ b *ℤ c) (step_small a b c p q r))

pub step_fits : (a b c : ℤ) → unsigned_abs a < 2 ^ 63 → unsigned_abs b < 2 ^ 63 → unsigned_abs c < 2 ^ 63
    → FitsSigned w128 (to_z w128 (of_z w128 a) +ℤ to_z w128 (of_z w128 (to_z w128 (of_z w128 b) *ℤ to_z w128 (of_z w128 c))))
step_fits a b c p q r = rw (small_product_passed b c q r, passed a (lt_of_lt_of_le p (lit≤ tt))) (fits_signed_from_abs w128 (a +ℤ b *ℤ c) (step_small a b c p q r))

pub step_frac : (a b c : ℤ) → unsigned_abs a < 2 ^ 63 → unsigned_abs b < 2 ^ 63 → unsigned_abs c < 2 ^ 63 → IsFrac (a +ℤ b *ℤ c) 1
step_frac a b c p q r = frac_whole (a +ℤ b *ℤ c) (step_small a b c p q r)

whole_is : (x : Ratio) → IsShort x → x ≡ record { num = x.num; den = 1 }
whole_is x s = let with_den : ℕ → Ratio = λ d. record { num = x.num; den = d } in ap with_den s.whole

pub step_is : (x y z : Ratio) → IsShort x → IsShort y → IsShort z → record { num = x.num +ℤ y.num *ℤ z.num; den = 1 } ≡ sum_of x (product_of y z)
step_is x y z fx fy fz =
    sym (sum_of_whole x.num (y.num *ℤ z.num))
    ∙ ap₂ sum_of (sym (whole_is x fx)) (sym (ap₂ product_of (whole_is y fy) (whole_is z fz) ∙ product_of_whole y.num z.num))
