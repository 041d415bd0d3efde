-- What holds of fractions in lowest terms.
use Rattle.std.proofs.Common.{◌≡◌, ℕ, ◌+◌, ◌*◌, ◌/◌, ◌<◌, ◌≤◌, ◌^◌, refl, sym, ◌∙◌, ap, ap₂, subst, arith, ℤ, pos, negsuc, Bool, true, false}
use lib.Signed.{lt_z}
use mathlib.Core.Bool.{not, beq}
use Rattle.std.specs.Prelude.{◌+ℤ◌, ◌*ℤ◌, int_div, unsigned_abs}
use Rattle.std.proofs.lemmas.Int.{ints, unsigned_abs-mul}
use Prim.Native.Nat.{◌∣◌, suc, zero}
use Rattle.std.proofs.Common.{add-one, lit<, lit≤}
use Rattle.std.proofs.lemmas.Bool.{le-ltb}
use lib.IntN.{+ℤ_comm, *ℤ-zero}
use Rattle.std.specs.Int.{w128, w64}
use Rattle.std.specs.Prelude.{FitsSigned, Result, Ok, Err, OkIff, IfOk}
use mir.Val.{to_z, of_z}
use mir.Facts.{to_z_pos}
use Rattle.std.proofs.lemmas.Int.{to_z-of_z, fits_signed_from_abs}
use Rattle.std.proofs.lemmas.Nat.{mul-le}
use native.Mathlib.Nat.{lt_of_lt_of_le, le_of_lt, lt_of_le_of_lt, div-le_self, mul-div_assoc, dvd-mul_right, div-mul_cancel, mul-pos, zero-mul, le-div_iff_mul-le, dvd-mul_left_of_dvd, eq-one_of_dvd-one, mul_comm, mul-one, mul-div_cancel}
use Rattle.rationals.specs.Gcd.{gcd}
use Rattle.ratio128.specs.Ratio.{Ratio, lowest, signed, quotient, sum_of, product_of, IsFrac, IsLowest, Fits}
use Rattle.rationals.proofs.GcdLemmas.{gcd-one, coprime-mul_right, coprime_from_dvd, coprime_from_dvd_right, gcd_comm, gcd-mul, gcd_pos, gcd_le_right, gcd_le_left, coprime-div, gcd-is, coprime-mul}
use Rattle.rationals.specs.OrderLaws.{times-times, times-suc}
use Rattle.rationals.proofs.IntLemmas.{product-times, times-div, add-times, abs-div, div-times, abs-times, abs-neg, div-neg, dvd-abs_left}

-- lowest terms are those that are coprime
pub lowest_is : (n : ℤ) (d k : ℕ) → 0 < k → gcd (unsigned_abs n) d ≡ 1 → lowest (n *ℤ pos k) (d * k) ≡ record { num = n; den = d }
lowest_is n d k h e =
    let common : gcd (unsigned_abs (n *ℤ pos k)) (d * k) ≡ k =
    ap (λ q. gcd q (d * k)) (abs-times n k ∙ mul_comm (unsigned_abs n) k) ∙ ap (gcd (k * unsigned_abs n)) (mul_comm d k) ∙ gcd-mul k (unsigned_abs n) d ∙ ap (λ q. k * q) e ∙ mul-one k in
    let pair : ℤ → ℕ → Ratio = λ a b. record { num = a; den = b } in
    ap (λ g. pair (int_div (n *ℤ pos k) (pos g)) (d * k / g)) common
    ∙ ap (λ a. pair a (d * k / k)) (div-times n k h)
    ∙ ap (λ b. pair n b) (mul-div_cancel d h)

-- ---- by sign and size

pub abs-signed : (t : Bool) (n : ℕ) → unsigned_abs (signed t n) ≡ n
abs-signed true n = abs-neg (pos n)
abs-signed false n = refl

signed-plus : (t : Bool) (n m : ℕ) → signed t n +ℤ signed t m ≡ signed t (n + m)
signed-plus true n m = omega (arith, ints)
signed-plus false n m = omega (arith, ints)

-- two numbers of one sign
pub sum_is : (s t : Bool) (n m k : ℕ) → s ≡ t → k ≡ n + m → signed s k ≡ signed s n +ℤ signed t m
sum_is s t n m k e q = ap (signed s) q ∙ sym (signed-plus s n m) ∙ ap (λ u. signed s n +ℤ signed u m) e

pub sum_above : (s t : Bool) (n m l : ℕ) → s ≡ t → l ≤ n + m → l ≤ unsigned_abs (signed s n +ℤ signed t m)
sum_above s t n m l e h = rw (sym (sum_is s t n m (n + m) e refl), abs-signed s (n + m)) h

signed-times : (t : Bool) (n m : ℕ) → signed t n *ℤ pos m ≡ signed t (n * m)
signed-times true zero m = rw (zero-mul m) refl
signed-times true (suc n) m = refl
signed-times false n m = refl

-- a multiple of a number of one sign
pub multiple_is : (t : Bool) (n m k : ℕ) → k ≡ n * m → signed t k ≡ signed t n *ℤ pos m
multiple_is t n m k q = ap (signed t) q ∙ sym (signed-times t n m)

pub multiple_above : (t : Bool) (n m l : ℕ) → l ≤ n * m → l ≤ unsigned_abs (signed t n *ℤ pos m)
multiple_above t n m l h = rw (signed-times t n m, abs-signed t (n * m)) h

pub div-signed : (t : Bool) (n k : ℕ) → int_div (signed t n) (pos k) ≡ signed t (n / k)
div-signed true n k = div-neg n k
div-signed false n k = refl

pub lowest-signed : (t : Bool) (n d g : ℕ) → g ≡ gcd n d → lowest (signed t n) d ≡ record { num = signed t (n / g); den = d / g }
lowest-signed t n d g e =
    let pair : ℤ → ℕ → Ratio = λ a b. record { num = a; den = b } in
    ap (λ k. pair (int_div (signed t n) (pos k)) (d / k)) (ap (λ q. gcd q d) (abs-signed t n) ∙ sym e)
    ∙ ap (λ a. pair a (d / g)) (div-signed t n g)

pub quotient-signed : (n d : ℤ) → quotient n d ≡ lowest (signed (not (beq (lt_z n (pos 0)) (lt_z d (pos 0)))) (unsigned_abs n)) (unsigned_abs d)
quotient-signed (pos n) (pos d) = rw (le-ltb n 0 (omega arith), le-ltb d 0 (omega arith)) refl
quotient-signed (pos n) (negsuc d) = rw (add-one d, le-ltb n 0 (omega arith)) refl
quotient-signed (negsuc n) (pos d) = rw (le-ltb d 0 (omega arith)) refl
quotient-signed (negsuc n) (negsuc d) = rw (add-one d) refl

pub div_pos : (n g : ℕ) → 0 < g → g ≤ n → 0 < n / g
div_pos n g h le = (le-div_iff_mul-le h).1 (omega arith)

pub frac_from_sizes : (t : Bool) (n d g : ℕ) → 0 < d → g ≡ gcd n d → n / g < 2 ^ 127 → d / g < 2 ^ 127 → IsFrac (signed t (n / g)) (d / g)
frac_from_sizes t n d g h e p q =
    let above : 0 < gcd n d = gcd_pos n d h in
    record {
      above_zero = div_pos d g (rw e above) (rw e (gcd_le_right n d h));
      fits = record { num = rw (abs-signed t (n / g)) p; den = q };
      coprime = rw (abs-signed t (n / g), e) (coprime-div n d above);
    }

-- ---- sums

-- a divisor of b' that divides a * d' + c * b' is 1
part_coprime : (a c : ℤ) (b' d' : ℕ) → gcd (unsigned_abs a) b' ≡ 1 → gcd d' b' ≡ 1 → gcd (unsigned_abs (a *ℤ pos d' +ℤ c *ℤ pos b')) b' ≡ 1
part_coprime a c b' d' p q =
    let t : ℤ = a *ℤ pos d' +ℤ c *ℤ pos b' in
    let e : ℕ = gcd (unsigned_abs t) b' in
    let D : ℕ → Type 0 = λ n. e ∣ n in
    let of_right : e ∣ unsigned_abs (c *ℤ pos b') = subst D (sym (abs-times c b')) (dvd-mul_left_of_dvd e (gcd-is (unsigned_abs t) b').1 (unsigned_abs c)) in
    let of_left : e ∣ unsigned_abs a * d' = subst D (abs-times a d') (dvd-abs_left e (a *ℤ pos d') (c *ℤ pos b') (gcd-is (unsigned_abs t) b').0 of_right) in
    let apart : gcd (unsigned_abs a * d') b' ≡ 1 = coprime-mul (unsigned_abs a) d' b' p q in
    eq-one_of_dvd-one (subst D apart ((gcd-is (unsigned_abs a * d') b').2 e of_left (gcd-is (unsigned_abs t) b').1))

regroup : (b d e h g : ℕ) → (b * (d * e)) * (h * g) ≡ (b * g) * (d * (e * h))
regroup b d e h g = grind arith

factors : (b d e h g : ℕ) → g ≡ e * h → (b * (d * e)) * (h * g) ≡ (b * g) * (d * g)
factors b d e h g q = regroup b d e h g ∙ ap (λ k. b * g * (d * k)) (sym q)

-- the sum of a / (b * g) and c / (d * g) in lowest terms, where b and d are coprime
module _ (a c : ℤ) (b d g h : ℕ) (t : ℤ) (above : 0 < g) (pa : gcd (unsigned_abs a) (b * g) ≡ 1) (pc : gcd (unsigned_abs c) (d * g) ≡ 1) (pb : gcd b d ≡ 1) (t_is : t ≡ a *ℤ pos d +ℤ c *ℤ pos b) (h_is : h ≡ gcd (unsigned_abs t) g) where
  h_above : 0 < h
  h_above = rw h_is (gcd_pos (unsigned_abs t) g above)

  h_dvd_t : h ∣ unsigned_abs t
  h_dvd_t = rw h_is (gcd-is (unsigned_abs t) g).0

  h_dvd_g : h ∣ g
  h_dvd_g = rw h_is (gcd-is (unsigned_abs t) g).1

  whole : int_div t (pos h) *ℤ pos h ≡ t
  whole = times-div t h h_dvd_t

  n_dvd_t : unsigned_abs (int_div t (pos h)) ∣ unsigned_abs t
  n_dvd_t =
      let D : ℕ → Type 0 = λ m. unsigned_abs (int_div t (pos h)) ∣ m in
      subst D (sym (abs-times (int_div t (pos h)) h) ∙ ap unsigned_abs whole) (dvd-mul_right (unsigned_abs (int_div t (pos h))) h)

  t_b : gcd (unsigned_abs t) b ≡ 1
  t_b = rw t_is (part_coprime a c b d (coprime_from_dvd_right (unsigned_abs a) (b * g) b (dvd-mul_right b g) pa) (gcd_comm d b ∙ pb))

  t_d : gcd (unsigned_abs t) d ≡ 1
  t_d = rw (t_is, +ℤ_comm (a *ℤ pos d) (c *ℤ pos b)) (part_coprime c a d b (coprime_from_dvd_right (unsigned_abs c) (d * g) d (dvd-mul_right d g) pc) pb)

  n_g : gcd (unsigned_abs (int_div t (pos h))) (g / h) ≡ 1
  n_g = rw (abs-div t h, h_is) (coprime-div (unsigned_abs t) g (gcd_pos (unsigned_abs t) g above))

  pub sum_coprime : gcd (unsigned_abs (int_div t (pos h))) (b * (d * (g / h))) ≡ 1
  sum_coprime =
      let n : ℕ = unsigned_abs (int_div t (pos h)) in
      coprime-mul_right n b (d * (g / h)) (coprime_from_dvd (unsigned_abs t) b n n_dvd_t t_b)
      (coprime-mul_right n d (g / h) (coprime_from_dvd (unsigned_abs t) d n n_dvd_t t_d) n_g)

  numerator : int_div t (pos h) *ℤ pos (h * g) ≡ a *ℤ pos (d * g) +ℤ c *ℤ pos (b * g)
  numerator =
      sym (times-times (int_div t (pos h)) h g) ∙ ap (λ z. z *ℤ pos g) (whole ∙ t_is) ∙ add-times (a *ℤ pos d) (c *ℤ pos b) g
      ∙ ap (λ z. z +ℤ c *ℤ pos b *ℤ pos g) (times-times a d g) ∙ ap (λ z. a *ℤ pos (d * g) +ℤ z) (times-times c b g)

  pub sum_lowest : lowest (a *ℤ pos (d * g) +ℤ c *ℤ pos (b * g)) (b * g * (d * g)) ≡ record { num = int_div t (pos h); den = b * (d * (g / h)) }
  sum_lowest =
      let e : g ≡ g / h * h = sym (div-mul_cancel h h_dvd_g) in
      ap (λ z. lowest z (b * g * (d * g))) (sym numerator)
      ∙ ap (lowest (int_div t (pos h) *ℤ pos (h * g))) (sym (factors b d (g / h) h g e))
      ∙ lowest_is (int_div t (pos h)) (b * (d * (g / h))) (h * g) (mul-pos h_above above) sum_coprime

-- what `add` computes: the parts of the sum, where g is the greatest common divisor of the denominators, t the sum over their least common multiple, and h what t and g share
pub record SumParts (x y : Ratio) (g h : ℕ) (t : ℤ) : Type 0 where
  pub above : 0 < h
  pub h_le : h ≤ g
  pub coprime : gcd (unsigned_abs (int_div t (pos h))) (x.den / g * (y.den / h)) ≡ 1
  pub value : sum_of x y ≡ record { num = int_div t (pos h); den = x.den / g * (y.den / h) }

pub lowest_frac : (x : Ratio) → IsFrac x.num x.den → IsLowest x
lowest_frac x f = record { above_zero = f.above_zero; coprime = f.coprime }

pub sum_parts : (x y : Ratio) (g h : ℕ) (t : ℤ) → IsLowest x → IsLowest y → g ≡ gcd x.den y.den → t ≡ x.num *ℤ pos (y.den / g) +ℤ y.num *ℤ pos (x.den / g) → h ≡ gcd (unsigned_abs t) g → SumParts x y g h t
sum_parts x y g h t fx fy g_is t_is h_is =
    let above : 0 < g = rw g_is (gcd_pos x.den y.den fy.above_zero) in
    let g_x : g ∣ x.den = rw g_is (gcd-is x.den y.den).0 in
    let g_y : g ∣ y.den = rw g_is (gcd-is x.den y.den).1 in
    let x_is : x.den / g * g ≡ x.den = div-mul_cancel g g_x in
    let y_is : y.den / g * g ≡ y.den = div-mul_cancel g g_y in
    let pa : gcd (unsigned_abs x.num) (x.den / g * g) ≡ 1 = rw x_is fx.coprime in
    let pc : gcd (unsigned_abs y.num) (y.den / g * g) ≡ 1 = rw y_is fy.coprime in
    let pb : gcd (x.den / g) (y.den / g) ≡ 1 = rw g_is (coprime-div x.den y.den (gcd_pos x.den y.den fy.above_zero)) in
    let h_g : h ∣ g = rw h_is (gcd-is (unsigned_abs t) g).1 in
    let below : y.den / h ≡ y.den / g * (g / h) = ap (λ k. k / h) (sym y_is) ∙ mul-div_assoc h (y.den / g) h_g in
    record {
      above = rw h_is (gcd_pos (unsigned_abs t) g above);
      h_le = rw h_is (gcd_le_right (unsigned_abs t) g above);
      coprime = rw below (sum_coprime x.num y.num (x.den / g) (y.den / g) g h t above pa pc pb t_is h_is);
      value = rw below (rw (x_is, y_is) at (sum_lowest x.num y.num (x.den / g) (y.den / g) g h t above pa pc pb t_is h_is));
    }

-- a signed number that was passed is itself
pub passed : (z : ℤ) → unsigned_abs z < 2 ^ 127 → to_z w128 (of_z w128 z) ≡ z
passed z h = to_z-of_z w128 z (fits_signed_from_abs w128 z h)

-- the run of `add`
module _ (x y : Ratio) (g : ℕ) (t : ℤ) (fx : IsFrac x.num x.den) (fy : IsFrac y.num y.den) (g_is : g ≡ gcd x.den y.den)
    (t_is : t ≡ x.num *ℤ pos (y.den / g) +ℤ y.num *ℤ pos (x.den / g)) (h : ℕ) (h_is : h ≡ gcd (unsigned_abs t) g) where
  pub run_parts : SumParts x y g h t
  run_parts = sum_parts x y g h t (lowest_frac x fx) (lowest_frac y fy) g_is t_is h_is

  pub run_unfit : ¬ (x.den / g * (y.den / h) < 2 ^ 127) → ¬ Fits (sum_of x y)
  run_unfit n f = let B : ℕ → Type 0 = λ k. k < 2 ^ 127 in n (subst B (ap (λ q. q.den) run_parts.value) f.den)

  pub run_frac : unsigned_abs t < 2 ^ 127 → x.den / g * (y.den / h) < 2 ^ 127 → IsFrac (int_div t (pos h)) (x.den / g * (y.den / h))
  run_frac pt pd =
      let above : 0 < g = rw g_is (gcd_pos x.den y.den fy.above_zero) in
      let le_x : g ≤ x.den = rw g_is (gcd_le_left x.den y.den fx.above_zero) in
      let le_y : g ≤ y.den = rw g_is (gcd_le_right x.den y.den fy.above_zero) in
      let le_h : h ≤ y.den = omega (arith, run_parts.h_le) in
      record {
        above_zero = mul-pos (div_pos x.den g above le_x) (div_pos y.den h run_parts.above le_h);
        fits = record { num = rw (abs-div t h) (lt_of_le_of_lt (div-le_self (unsigned_abs t) h) pt); den = pd };
        coprime = run_parts.coprime;
      }

  pub run_fits : unsigned_abs t < 2 ^ 127 → x.den / g * (y.den / h) < 2 ^ 127 → Fits (sum_of x y)
  run_fits pt pd = rw run_parts.value (run_frac pt pd).fits

pub bound_of : (z w : ℤ) → (unsigned_abs w < 2 ^ 127) × (z ≡ w) → unsigned_abs z < 2 ^ 127
bound_of z w h = rw h.1 h.0

-- what is known of a sum that was computed
pub added : (a b r : ℤ) → unsigned_abs a < 2 ^ 127 → unsigned_abs b < 2 ^ 127 → (unsigned_abs (to_z w128 (of_z w128 a) +ℤ to_z w128 (of_z w128 b)) < 2 ^ 127) × (r ≡ to_z w128 (of_z w128 a) +ℤ to_z w128 (of_z w128 b)) → (unsigned_abs (a +ℤ b) < 2 ^ 127) × (r ≡ a +ℤ b)
added a b r p q h = rw (passed a p, passed b q) at h

pub not_added : (a b : ℤ) → unsigned_abs a < 2 ^ 127 → unsigned_abs b < 2 ^ 127 → ¬ (unsigned_abs (to_z w128 (of_z w128 a) +ℤ to_z w128 (of_z w128 b)) < 2 ^ 127) → ¬ (unsigned_abs (a +ℤ b) < 2 ^ 127)
not_added a b p q n = rw (passed a p, passed b q) at n

pub shared : (t : ℤ) (u g h : ℕ) → unsigned_abs t < 2 ^ 127 → u ≡ unsigned_abs (to_z w128 (of_z w128 t)) → h ≡ gcd u g → h ≡ gcd (unsigned_abs t) g
shared t u g h p e q = q ∙ ap (λ k. gcd k g) (e ∙ ap unsigned_abs (passed t p))

pub divided : (t r : ℤ) (h : ℕ) → unsigned_abs t < 2 ^ 127 → r ≡ int_div (to_z w128 (of_z w128 t)) (pos h) → to_z w128 (of_z w128 r) ≡ int_div t (pos h)
divided t r h p e =
    let q : r ≡ int_div t (pos h) = e ∙ ap (λ z. int_div z (pos h)) (passed t p) in
    let small : unsigned_abs r < 2 ^ 127 = rw (q, abs-div t h) (lt_of_le_of_lt (div-le_self (unsigned_abs t) h) p) in
    passed r small ∙ q

-- ---- products

regroup_product : (b d g h : ℕ) → (b * d) * (g * h) ≡ (b * h) * (d * g)
regroup_product b d g h = grind arith

-- the run of `mul`
module _ (x y : Ratio) (g h : ℕ) (fx : IsFrac x.num x.den) (fy : IsFrac y.num y.den) (g_is : g ≡ gcd (unsigned_abs x.num) y.den) (h_is : h ≡ gcd (unsigned_abs y.num) x.den) where
  pub mul_g_above : 0 < g
  mul_g_above = rw g_is (gcd_pos (unsigned_abs x.num) y.den fy.above_zero)

  pub mul_h_above : 0 < h
  mul_h_above = rw h_is (gcd_pos (unsigned_abs y.num) x.den fx.above_zero)

  g_x : g ∣ unsigned_abs x.num
  g_x = rw g_is (gcd-is (unsigned_abs x.num) y.den).0

  g_y : g ∣ y.den
  g_y = rw g_is (gcd-is (unsigned_abs x.num) y.den).1

  h_y : h ∣ unsigned_abs y.num
  h_y = rw h_is (gcd-is (unsigned_abs y.num) x.den).0

  h_x : h ∣ x.den
  h_x = rw h_is (gcd-is (unsigned_abs y.num) x.den).1

  dvd-share : (n k : ℕ) → k ∣ n → n / k ∣ n
  dvd-share n k d = let D : ℕ → Type 0 = λ m. n / k ∣ m in subst D (div-mul_cancel k d) (dvd-mul_right (n / k) k)

  pub mul_coprime : gcd (unsigned_abs (int_div x.num (pos g) *ℤ int_div y.num (pos h))) (x.den / h * (y.den / g)) ≡ 1
  mul_coprime =
      let a : ℕ = unsigned_abs x.num in
      let c : ℕ = unsigned_abs y.num in
      let left : gcd (a / g) (x.den / h * (y.den / g)) ≡ 1 =
      coprime-mul_right (a / g) (x.den / h) (y.den / g)
      (coprime_from_dvd_right (a / g) x.den (x.den / h) (dvd-share x.den h h_x) (coprime_from_dvd a x.den (a / g) (dvd-share a g g_x) fx.coprime))
      (rw g_is (coprime-div a y.den (gcd_pos a y.den fy.above_zero))) in
      let right : gcd (c / h) (x.den / h * (y.den / g)) ≡ 1 =
      coprime-mul_right (c / h) (x.den / h) (y.den / g)
      (rw h_is (coprime-div c x.den (gcd_pos c x.den fx.above_zero)))
      (coprime_from_dvd_right (c / h) y.den (y.den / g) (dvd-share y.den g g_y) (coprime_from_dvd c y.den (c / h) (dvd-share c h h_y) fy.coprime)) in
      rw (unsigned_abs-mul (int_div x.num (pos g)) (int_div y.num (pos h)), abs-div x.num g, abs-div y.num h)
      (coprime-mul (a / g) (c / h) (x.den / h * (y.den / g)) left right)

  pub mul_value : product_of x y ≡ record { num = int_div x.num (pos g) *ℤ int_div y.num (pos h); den = x.den / h * (y.den / g) }
  mul_value =
      let p : ℤ = int_div x.num (pos g) in
      let q : ℤ = int_div y.num (pos h) in
      let num : (p *ℤ q) *ℤ pos (g * h) ≡ x.num *ℤ y.num =
      sym (product-times p q g h) ∙ ap (λ z. z *ℤ (q *ℤ pos h)) (times-div x.num g g_x) ∙ ap (λ z. x.num *ℤ z) (times-div y.num h h_y) in
      let den : x.den / h * (y.den / g) * (g * h) ≡ x.den * y.den =
      regroup_product (x.den / h) (y.den / g) g h ∙ ap (λ k. k * (y.den / g * g)) (div-mul_cancel h h_x) ∙ ap (λ k. x.den * k) (div-mul_cancel g g_y) in
      ap (λ z. lowest z (x.den * y.den)) (sym num) ∙ ap (lowest ((p *ℤ q) *ℤ pos (g * h))) (sym den)
      ∙ lowest_is (p *ℤ q) (x.den / h * (y.den / g)) (g * h) (mul-pos mul_g_above mul_h_above) mul_coprime

-- the parts that `mul` computes
module _ (x : Ratio) (n : ℤ) (d : ℕ) (lowest_x : IsLowest x) (is : x ≡ record { num = n; den = d }) where
  pub lowest_is_frac : unsigned_abs n < 2 ^ 127 → d < 2 ^ 127 → IsFrac n d
  lowest_is_frac pn pd =
      let l = subst IsLowest is lowest_x in
      record { above_zero = l.above_zero; fits = record { num = pn; den = pd }; coprime = l.coprime }

  pub num_not : ¬ (unsigned_abs n < 2 ^ 127) → ¬ Fits x
  num_not a f = a (subst Fits is f).num

  pub den_not : ¬ (d < 2 ^ 127) → ¬ Fits x
  den_not a f = a (subst Fits is f).den

pub fits_along : (r s : Ratio) → r ≡ s → unsigned_abs s.num < 2 ^ 127 → s.den < 2 ^ 127 → Fits r
fits_along r s e p q = rw e (record { num = p; den = q })

-- a product of two numbers below 2 ^ 63 in size
pub small_product : (a b : ℤ) → unsigned_abs a < 2 ^ 63 → unsigned_abs b < 2 ^ 63 → unsigned_abs (a *ℤ b) < 2 ^ 127
small_product a b p q =
    let le : unsigned_abs a * unsigned_abs b ≤ 2 ^ 63 * 2 ^ 63 = mul-le (unsigned_abs a) (unsigned_abs b) (2 ^ 63) (2 ^ 63) (le_of_lt p) (le_of_lt q) in
    rw (unsigned_abs-mul a b) (lt_of_le_of_lt le (lit< tt))

pub small_product_passed : (a b : ℤ) → unsigned_abs a < 2 ^ 63 → unsigned_abs b < 2 ^ 63 → to_z w128 (of_z w128 (to_z w128 (of_z w128 a) *ℤ to_z w128 (of_z w128 b))) ≡ a *ℤ b
small_product_passed a b p q =
    let wide : 2 ^ 63 ≤ 2 ^ 127 = lit≤ tt in
    rw (passed a (lt_of_lt_of_le p wide), passed b (lt_of_lt_of_le q wide)) (passed (a *ℤ b) (small_product a b p q))

pub small_product_fits : (a b : ℤ) → unsigned_abs a < 2 ^ 63 → unsigned_abs b < 2 ^ 63 → FitsSigned w128 (to_z w128 (of_z w128 a) *ℤ to_z w128 (of_z w128 b))
small_product_fits a b p q =
    let wide : 2 ^ 63 ≤ 2 ^ 127 = lit≤ tt in
    rw (passed a (lt_of_lt_of_le p wide), passed b (lt_of_lt_of_le q wide)) (fits_signed_from_abs w128 (a *ℤ b) (small_product a b p q))

-- a number of 128 bits whose size is read
pub size_read : (a : ℤ) (n : ℕ) → FitsSigned w128 a → n ≡ unsigned_abs (to_z w128 (of_z w128 a)) → unsigned_abs a ≡ n
size_read a n f e = sym (e ∙ ap unsigned_abs (to_z-of_z w128 a f))

-- a product with a number that has no sign
small_times : (a : ℤ) (b : ℕ) → unsigned_abs a ≤ 2 ^ 63 → b < 2 ^ 63 → unsigned_abs (a *ℤ pos b) < 2 ^ 127
small_times a b p q =
    let le : unsigned_abs a * b ≤ 2 ^ 63 * 2 ^ 63 = mul-le (unsigned_abs a) b (2 ^ 63) (2 ^ 63) p (le_of_lt q) in
    rw (abs-times a b) (lt_of_le_of_lt le (lit< tt))

times_read : (a : ℤ) (b : ℕ) → unsigned_abs a ≤ 2 ^ 63 → b < 2 ^ 63 → to_z w128 (of_z w128 a) *ℤ to_z w128 b ≡ a *ℤ pos b
times_read a b p q =
    ap₂ (λ x y. x *ℤ y) (passed a (lt_of_le_of_lt p (lit< tt))) (to_z_pos w128 (lt_of_lt_of_le q (lit≤ tt)))

pub times_fits : (a : ℤ) (b : ℕ) → unsigned_abs a ≤ 2 ^ 63 → b < 2 ^ 63 → FitsSigned w128 (to_z w128 (of_z w128 a) *ℤ to_z w128 b)
times_fits a b p q = rw (times_read a b p q) (fits_signed_from_abs w128 (a *ℤ pos b) (small_times a b p q))

pub times_passed : (a : ℤ) (b : ℕ) → unsigned_abs a ≤ 2 ^ 63 → b < 2 ^ 63
    → (unsigned_abs (a *ℤ pos b) < 2 ^ 127) × (to_z w128 (of_z w128 (to_z w128 (of_z w128 a) *ℤ to_z w128 b)) ≡ a *ℤ pos b)
times_passed a b p q = (small_times a b p q, rw (times_read a b p q) (passed (a *ℤ pos b) (small_times a b p q)))

-- ---- what a checked operation of 128 bits gives

pub product_read : (a b : ℤ) → FitsSigned w128 a → FitsSigned w128 b → to_z w128 (of_z w128 a) *ℤ to_z w128 (of_z w128 b) ≡ a *ℤ b
product_read a b f g = ap₂ (λ x y. x *ℤ y) (to_z-of_z w128 a f) (to_z-of_z w128 b g)

pub multiple_read : (a : ℤ) (b : ℕ) → FitsSigned w128 a → b < 2 ^ 127 → to_z w128 (of_z w128 a) *ℤ to_z w128 b ≡ a *ℤ pos b
multiple_read a b f h = ap₂ (λ x y. x *ℤ y) (to_z-of_z w128 a f) (to_z_pos w128 h)

pub sum_read : (a b : ℤ) → FitsSigned w128 a → FitsSigned w128 b → to_z w128 (of_z w128 a) +ℤ to_z w128 (of_z w128 b) ≡ a +ℤ b
sum_read a b f g = ap₂ (λ x y. x +ℤ y) (to_z-of_z w128 a f) (to_z-of_z w128 b g)

size_kept : (x : ℤ) → FitsSigned w128 x → (of_z w128 x ≡ 2 ^ 127 → ⊥) → unsigned_abs x < 2 ^ 127
size_kept (pos n) f n' = f.sfits
size_kept (negsuc n) f n' = omega (arith, f.sfits)

-- x is what was computed, of the value y, and z what was given: all but the least number
pub value_kept : (x y z : ℤ) → x ≡ y → FitsSigned w128 x × (z ≡ x) → (of_z w128 z ≡ 2 ^ 127 → ⊥) → (unsigned_abs y < 2 ^ 127) × (to_z w128 (of_z w128 z) ≡ y)
value_kept x y z e (f, q) n =
    let fits : FitsSigned w128 z = rw q f in
    (rw (← e, ← q) (size_kept z fits n), to_z-of_z w128 z fits ∙ q ∙ e)

size_of_least : (x : ℤ) → of_z w128 x ≡ 2 ^ 127 → unsigned_abs x < 2 ^ 127 → ⊥
size_of_least (pos n) q h = omega arith
size_of_least (negsuc n) q h = omega arith

pub least_passes : (x y z : ℤ) → x ≡ y → FitsSigned w128 x × (z ≡ x) → of_z w128 z ≡ 2 ^ 127 → unsigned_abs y < 2 ^ 127 → ⊥
least_passes x y z e (f, q) l h = size_of_least z l (rw (q, e) h)

pub value_passes : (x y : ℤ) → x ≡ y → (FitsSigned w128 x → ⊥) → unsigned_abs y < 2 ^ 127 → ⊥
value_passes x y e n h = n (rw e (fits_signed_from_abs w128 y h))

pub product_kept : (a l : ℤ) (b : ℕ) → FitsSigned w128 a → (unsigned_abs (to_z w128 (of_z w128 a) *ℤ pos b) < 2 ^ 127) × (l ≡ to_z w128 (of_z w128 a) *ℤ pos b) → to_z w128 (of_z w128 l) ≡ a *ℤ pos b
product_kept a l b f (p, q) = passed l (rw q p) ∙ q ∙ ap (λ x. x *ℤ pos b) (to_z-of_z w128 a f)

pub sum_kept : {E : Type 0} (t : Result ℤ E) (s w : ℤ) → s ≡ w → OkIff t (unsigned_abs s < 2 ^ 127) s → IfOk t (λ v. (unsigned_abs v < 2 ^ 127) × (v ≡ w))
sum_kept (Ok v) s w e (p, q) = (rw q p, q ∙ e)
sum_kept (Err x) s w e n = tt

-- ---- integers

pub times-one : (a : ℤ) → a *ℤ pos 1 ≡ a
times-one a = omega (arith, ints, times-suc a 0, *ℤ-zero a)

whole_sum : (a c : ℤ) → a *ℤ pos 1 +ℤ c *ℤ pos 1 ≡ (a +ℤ c) *ℤ pos 1
whole_sum a c = sym (add-times a c 1)

pub sum_of_whole : (a c : ℤ) → sum_of (record { num = a; den = 1 }) (record { num = c; den = 1 }) ≡ record { num = a +ℤ c; den = 1 }
sum_of_whole a c = ap (λ z. lowest z (1 * 1)) (whole_sum a c) ∙ lowest_is (a +ℤ c) 1 1 (omega arith) (gcd-one (unsigned_abs (a +ℤ c)))

pub sum_unfit_whole : (a c : ℤ) → ¬ (unsigned_abs (a +ℤ c) < 2 ^ 127) → ¬ Fits (sum_of (record { num = a; den = 1 }) (record { num = c; den = 1 }))
sum_unfit_whole a c n f = let B : ℤ → Type 0 = λ z. unsigned_abs z < 2 ^ 127 in n (subst B (ap (λ r. r.num) (sum_of_whole a c)) f.num)

pub product_of_whole : (a c : ℤ) → product_of (record { num = a; den = 1 }) (record { num = c; den = 1 }) ≡ record { num = a *ℤ c; den = 1 }
product_of_whole a c = ap (λ z. lowest z (1 * 1)) (sym (times-one (a *ℤ c))) ∙ lowest_is (a *ℤ c) 1 1 (omega arith) (gcd-one (unsigned_abs (a *ℤ c)))

pub product_unfit_whole : (a c : ℤ) → ¬ (unsigned_abs (a *ℤ c) < 2 ^ 127) → ¬ Fits (product_of (record { num = a; den = 1 }) (record { num = c; den = 1 }))
product_unfit_whole a c n f = let B : ℤ → Type 0 = λ z. unsigned_abs z < 2 ^ 127 in n (subst B (ap (λ r. r.num) (product_of_whole a c)) f.num)

pub frac_whole : (a : ℤ) → unsigned_abs a < 2 ^ 127 → IsFrac a 1
frac_whole a h = record { above_zero = omega arith; fits = record { num = h; den = lit< tt }; coprime = gcd-one (unsigned_abs a) }

abs_above : (a : ℤ) → (a ≡ pos 0 → ⊥) → 0 < unsigned_abs a
abs_above (pos zero) n = absurd (n refl)
abs_above (pos (suc k)) n = omega arith
abs_above (negsuc k) n = omega arith

pub frac_inverted : (t : Bool) (a : ℤ) (d : ℕ) → IsFrac a d → (a ≡ pos 0 → ⊥) → IsFrac (signed t d) (unsigned_abs a)
frac_inverted t a d f n = record {
  above_zero = abs_above a n;
  fits = record { num = rw (abs-signed t d) f.fits.den; den = f.fits.num };
  coprime = rw (abs-signed t d) (gcd_comm d (unsigned_abs a) ∙ f.coprime);
}

pub abs_from_w64 : (n : ℤ) → FitsSigned w64 n → unsigned_abs n < 2 ^ 127
abs_from_w64 (pos n) f = omega (arith, f.sfits)
abs_from_w64 (negsuc n) f = omega (arith, f.sfits)

-- ---- what `lowest` means: the same number, over a denominator above 0, with nothing in common

pub lowest-exact : (n : ℤ) (d : ℕ) → (lowest n d).num *ℤ pos d ≡ n *ℤ pos (lowest n d).den
lowest-exact n d =
    let g : ℕ = gcd (unsigned_abs n) d in
    let p : ℤ = int_div n (pos g) in
    let q : ℕ = d / g in
    let d_is : q * g ≡ d = div-mul_cancel g (gcd-is (unsigned_abs n) d).1 in
    let n_is : p *ℤ pos g ≡ n = times-div n g (gcd-is (unsigned_abs n) d).0 in
    ap (λ k. p *ℤ pos k) (sym d_is ∙ mul_comm q g) ∙ sym (times-times p g q) ∙ ap (λ z. z *ℤ pos q) n_is

pub lowest-coprime : (n : ℤ) (d : ℕ) → 0 < d → gcd (unsigned_abs (lowest n d).num) (lowest n d).den ≡ 1
lowest-coprime n d h = rw (abs-div n (gcd (unsigned_abs n) d)) (coprime-div (unsigned_abs n) d (gcd_pos (unsigned_abs n) d h))

pub lowest_above : (n : ℤ) (d : ℕ) → 0 < d → 0 < (lowest n d).den
lowest_above n d h = div_pos d (gcd (unsigned_abs n) d) (gcd_pos (unsigned_abs n) d h) (gcd_le_right (unsigned_abs n) d h)

pub product_lowest : (x y : Ratio) → 0 < x.den → 0 < y.den → IsLowest (product_of x y)
product_lowest x y p q = record {
  above_zero = lowest_above (x.num *ℤ y.num) (x.den * y.den) (mul-pos p q);
  coprime = lowest-coprime (x.num *ℤ y.num) (x.den * y.den) (mul-pos p q);
}
