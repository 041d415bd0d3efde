-- The value of a literal is exact.
use Rattle.std.proofs.Common.{◌≡◌, ℕ, zero, suc, ◌+◌, ◌-◌, ◌*◌, ◌^◌, ◌<◌, ◌≤◌, Bool, true, false, Ok, Err, refl, sym, ap, ◌∙◌, arith, mul-one, pos, negsuc, leb}
use Rattle.std.specs.Prelude.{◌+ℤ◌, ◌*ℤ◌, ◌||◌}
use Rattle.std.proofs.lemmas.Bool.{leb-true, leb-false}
use Rattle.std.proofs.lemmas.Int.{ints}
use Rattle.std.proofs.lemmas.Nat.{pow-add}
use native.Mathlib.Nat.{mul_assoc, mul_comm, zero-mul}
use Rattle.rationals.specs.Rational.{ℚ, zero_ℚ, ◌÷◌, frac_same}
use Rattle.rationals.specs.Passes.{wide}
use Rattle.rationals.specs.Choices.{pick}
use Rattle.frac128.specs.declared.text.NumFault.TheVariants.{Wide}
use Rattle.frac128.specs.Literals.{LiteralLaws}
use Rattle.frac128.specs.Numbers.{decimal_value, power_value}
use Rattle.ratio128.specs.Ratio.{signed}
use Rattle.frac128.proofs.ParseLemmas.{ten_pos}
use Rattle.frac128.proofs.LiteralLemmas.{decimal_found}
use Rattle.frac128.proofs.ReadBack.{read_back, trims, zero_is}

chosen : {X E : Type 0} (b : Bool) (f : E) (x v : X) → pick b (Err f) (Ok x) ≡ Ok v → v ≡ x
chosen true f x v e = absurd (cc)
chosen false f x v e = let h : x ≡ v = cc in sym h

signed-times : (s : Bool) (n k : ℕ) → signed s n *ℤ pos k ≡ signed s (n * k)
signed-times false n k = refl
signed-times true zero k = rw (zero-mul k) refl
signed-times true (suc n) k = refl

-- equal by cross products
same_value : (s : Bool) (m n d e : ℕ) → 0 < d → 0 < e → m * e ≡ n * d → signed s m ÷ d ≡ signed s n ÷ e
same_value s m n d e p q h = frac_same (signed s m) (signed s n) d e p q (signed-times s m e ∙ ap (signed s) h ∙ sym (signed-times s n d))

-- ---- a power of ten

power_up : (s : Bool) (m k : ℕ) (v : ℚ) → power_value s m (pos k) ≡ Ok v → v ≡ signed s (m * 10 ^ k) ÷ 1
power_up s m k v e = chosen (wide m || (wide (10 ^ k) || wide (m * 10 ^ k))) Wide (signed s (m * 10 ^ k) ÷ 1) v e

power_down : (s : Bool) (m k : ℕ) (v : ℚ) → power_value s m (negsuc k) ≡ Ok v → v ≡ signed s m ÷ (10 ^ suc k)
power_down s m k v e = chosen (wide m || wide (10 ^ suc k)) Wide (signed s m ÷ (10 ^ suc k)) v e

ten_up : (m z k : ℕ) → m * 10 ^ (k + z) ≡ (m * 10 ^ z) * 10 ^ k
ten_up m z k = ap (λ j. m * j) (pow-add 10 k z ∙ mul_comm (10 ^ k) (10 ^ z)) ∙ sym (mul_assoc m (10 ^ z) (10 ^ k))

tens_found : (s : Bool) (n k : ℕ) (v : ℚ) → 0 < n → decimal_value s n (pos k) ≡ Ok v → v ≡ signed s (n * 10 ^ k) ÷ 1
tens_found s n k v p e =
    let t = trims n n (omega arith) p in
    let x : pos k +ℤ pos t.z ≡ pos (k + t.z) = omega (arith, ints) in
    let f : power_value s t.m (pos (k + t.z)) ≡ Ok v = sym (decimal_found s (pos k) n t.m t.z t.above t.trimmed ∙ ap (power_value s t.m) x) ∙ e in
    power_up s t.m (k + t.z) v f ∙ ap (λ j. signed s j ÷ 1) (ten_up t.m t.z k ∙ ap (λ j. j * 10 ^ k) (sym t.trimmed.value))

module _ (s : Bool) (n m z k : ℕ) (v : ℚ) (h : n ≡ m * 10 ^ z) (e : power_value s m (negsuc k +ℤ pos z) ≡ Ok v) where
  fewer_zeros : z ≤ k → v ≡ signed s n ÷ (10 ^ suc k)
  fewer_zeros le =
      let x : negsuc k +ℤ pos z ≡ negsuc (k - z) = omega (arith, ints) in
      let q : suc (k - z) + z ≡ suc k = omega arith in
      let c : m * 10 ^ suc k ≡ n * 10 ^ suc (k - z) = ap (λ j. m * 10 ^ j) (sym q) ∙ ten_up m z (suc (k - z)) ∙ ap (λ j. j * 10 ^ suc (k - z)) (sym h) in
      power_down s m (k - z) v (ap (power_value s m) (sym x) ∙ e) ∙ same_value s m n (10 ^ suc (k - z)) (10 ^ suc k) (ten_pos (suc (k - z))) (ten_pos (suc k)) c

  more_zeros : k < z → v ≡ signed s n ÷ (10 ^ suc k)
  more_zeros lt =
      let x : negsuc k +ℤ pos z ≡ pos (z - suc k) = omega (arith, ints) in
      let q : suc k + (z - suc k) ≡ z = omega arith in
      let c : (m * 10 ^ (z - suc k)) * 10 ^ suc k ≡ n * 1 = sym (ten_up m (z - suc k) (suc k)) ∙ ap (λ j. m * 10 ^ j) q ∙ sym h ∙ sym (mul-one n) in
      power_up s m (z - suc k) v (ap (power_value s m) (sym x) ∙ e) ∙ same_value s (m * 10 ^ (z - suc k)) n 1 (10 ^ suc k) (omega arith) (ten_pos (suc k)) c

  either : (b : Bool) → leb z k ≡ b → v ≡ signed s n ÷ (10 ^ suc k)
  either true l = fewer_zeros (leb-true z k l)
  either false l = more_zeros (leb-false z k l)

places_found : (s : Bool) (n k : ℕ) (v : ℚ) → 0 < n → decimal_value s n (negsuc k) ≡ Ok v → v ≡ signed s n ÷ (10 ^ suc k)
places_found s n k v p e =
    let t = trims n n (omega arith) p in
    either s n t.m t.z k v t.trimmed.value (sym (decimal_found s (negsuc k) n t.m t.z t.above t.trimmed) ∙ e) (leb t.z k) refl

zero_over : (s : Bool) (d : ℕ) → 0 < d → zero_ℚ ≡ signed s 0 ÷ d
zero_over s d p = zero_is s ∙ same_value s 0 0 1 d (omega arith) p (zero-mul d)

tens_value : (s : Bool) (n k : ℕ) (v : ℚ) → decimal_value s n (pos k) ≡ Ok v → v ≡ signed s (n * 10 ^ k) ÷ 1
tens_value s zero k v e = let q : zero_ℚ ≡ v = cc in sym q ∙ zero_is s ∙ ap (λ j. signed s j ÷ 1) (sym (zero-mul (10 ^ k)))
tens_value s (suc n) k v e = tens_found s (suc n) k v (omega arith) e

places_value : (s : Bool) (n k : ℕ) (v : ℚ) → decimal_value s n (negsuc k) ≡ Ok v → v ≡ signed s n ÷ (10 ^ suc k)
places_value s zero k v e = let q : zero_ℚ ≡ v = cc in sym q ∙ zero_over s (10 ^ suc k) (ten_pos (suc k))
places_value s (suc n) k v e = places_found s (suc n) k v (omega arith) e

pub literal_laws : LiteralLaws
literal_laws = record {
  parts = λ s n d v e. chosen (wide n || wide d) Wide (signed s n ÷ d) v e;
  tens = tens_value;
  places = places_value;
  read_back = read_back;
}
