-- What the digits before and after the point are together.
use Rattle.std.proofs.Common.{◌≡◌, add-one, ℕ, zero, suc, ◌+◌, ◌-◌, ◌*◌, ◌/◌, ◌%◌, ◌^◌, ◌<◌, ◌≤◌, Bool, true, false, List, [], ◌∷◌, ◌++◌, length, Some, Err, Ok, refl, sym, ap, ap₂, subst, ◌∙◌, arith, ℤ, pos, negsuc, mul-one, lit<}
use Rattle.std.specs.Prelude.{◌==◌, ◌||◌, ◌+ℤ◌, neg_ℤ}
use Rattle.std.proofs.lemmas.Bool.{eq-eqb, ne_eqb}
use Rattle.std.proofs.lemmas.Int.{ints}
use Rattle.std.proofs.Math.Nat.{mul-mod_left, mul-div_cancel}
use native.Mathlib.Nat.{pow-zero, zero-mul}
use Rattle.rationals.specs.Rational.{zero_ℚ, ◌÷◌}
use Rattle.rationals.specs.Passes.{wide}
use Rattle.rationals.specs.Choices.{pick}
use Rattle.frac128.specs.declared.text.NumFault.TheVariants.{Wide}
use Rattle.frac128.specs.Numbers.{number, number_from, is_nothing, exponent, with_exponent, decimal_literal, literal_value, decimal_value, power_value, trim}
use Rattle.frac128.specs.Numbers.Literal.{no_number}
use Rattle.ratio128.specs.Ratio.{signed}
use Rattle.frac128.specs.Significand.{IsTrimmed, HasWideSignificand, AllDigits}
use Rattle.frac128.proofs.ParseLemmas.{wide_where}
use Rattle.frac128.proofs.SignificandLemmas.{long_on, one_zero, ten_times}

pub number_from-append : (n : ℕ) (ds ps : List ℕ) → number_from n (ds ++ ps) ≡ number_from (number_from n ds) ps
number_from-append n [] ps = refl
number_from-append n (d ∷ ds) ps = number_from-append (n * 10 + (d - 48)) ds ps

-- ---- digits after digits

pub long_first : (ds ps : List ℕ) → AllDigits ps → HasWideSignificand (number ds) → HasWideSignificand (number (ds ++ ps))
long_first ds ps a t = subst HasWideSignificand (sym (number_from-append 0 ds ps)) (long_on ps (number ds) t.m t.z a t.trimmed t.long)

pub number-append : (ds ps : List ℕ) (m z : ℕ) → IsTrimmed (number ds) m z → number_from (m * 10 ^ z) ps ≡ number (ds ++ ps)
number-append ds ps m z t = ap (λ n. number_from n ps) (sym t.value) ∙ sym (number_from-append 0 ds ps)

-- ---- the zeros at the end of a number

zeros_fit : (m z : ℕ) → 0 < m → z ≤ m * 10 ^ z
zeros_fit m zero h = omega arith
zeros_fit m (suc z) h =
    let before : z ≤ m * 10 ^ z = zeros_fit m z h in
    let some : m ≤ m * 10 ^ z = ten_times m z in
    let v : m * 10 ^ (z + 1) ≡ (m * 10 ^ z) * 10 = one_zero m z in
    rw (← add-one z) (omega (arith, v))

times_one : (m : ℕ) → m * 10 ^ 0 ≡ m
times_one m = rw (pow-zero 10) (mul-one m)

nothing : (e : ℤ) → e ≡ e +ℤ pos 0
nothing e = omega (arith, ints)

trim_all : (k m z : ℕ) (e : ℤ) → z ≤ k → (m % 10 ≡ 0 → ⊥) → trim k (m * 10 ^ z) e ≡ (m, e +ℤ pos z)
trim_all zero m zero e h n = ap₂ (λ a b. (a, b)) (times_one m) (nothing e)
trim_all zero m (suc z) e h n = absurd (omega arith)
trim_all (suc k) m zero e h n =
    let v : m * 10 ^ 0 ≡ m = times_one m in
    let t : (m * 10 ^ 0) % 10 == 0 ≡ false = ne_eqb _ _ (λ q. n (ap (λ a. a % 10) (sym v) ∙ q)) in
    ap (λ b. pick b (trim k (m * 10 ^ 0 / 10) (e +ℤ pos 1)) (m * 10 ^ 0, e)) t ∙ ap₂ (λ a b. (a, b)) v (nothing e)
trim_all (suc k) m (suc z) e h n =
    let v : m * 10 ^ suc z ≡ (m * 10 ^ z) * 10 = ap (λ j. m * 10 ^ j) (sym (add-one z)) ∙ one_zero m z in
    let t : (m * 10 ^ suc z) % 10 == 0 ≡ true = eq-eqb _ _ (ap (λ a. a % 10) v ∙ mul-mod_left (m * 10 ^ z) 10) in
    let ten : 0 < 10 = omega arith in
    let d : m * 10 ^ suc z / 10 ≡ m * 10 ^ z = ap (λ a. a / 10) v ∙ mul-div_cancel (m * 10 ^ z) ten in
    let s : (e +ℤ pos 1) +ℤ pos z ≡ e +ℤ pos (suc z) = omega (arith, ints) in
    ap (λ b. pick b (trim k (m * 10 ^ suc z / 10) (e +ℤ pos 1)) (m * 10 ^ suc z, e)) t
    ∙ ap (λ a. trim k a (e +ℤ pos 1)) d ∙ trim_all k m z (e +ℤ pos 1) (omega arith) n ∙ ap (λ a. (m, a)) s

-- ---- the value of a decimal number

module _ (s : Bool) (e : ℤ) where
  no_zeros : (n m z : ℕ) → 0 < m → IsTrimmed n m z → trim n n e ≡ (m, e +ℤ pos z)
  no_zeros n m z h t =
      let ends : m % 10 ≡ 0 → ⊥ = λ q. (let none : m ≡ 0 = t.last q in absurd (omega arith)) in
      let T : ℕ → Type 0 = λ k. trim k k e ≡ (m, e +ℤ pos z) in
      subst T (sym t.value) (trim_all (m * 10 ^ z) m z e (zeros_fit m z h) ends)

  by_trim : (n m z : ℕ) → 0 < m → n ≡ m * 10 ^ z → trim n n e ≡ (m, e +ℤ pos z) → decimal_value s n e ≡ power_value s m (e +ℤ pos z)
  by_trim zero m z h v t = let some : m ≤ m * 10 ^ z = ten_times m z in absurd (omega (arith, v))
  by_trim (suc n) m z h v t = ap (λ (p : ℕ × ℤ). power_value s p.0 p.1) t

  pub decimal_found : (n m z : ℕ) → 0 < m → IsTrimmed n m z → decimal_value s n e ≡ power_value s m (e +ℤ pos z)
  decimal_found n m z h t = by_trim n m z h t.value (no_zeros n m z h t)

  decimal_zero : (n z : ℕ) → IsTrimmed n 0 z → decimal_value s n e ≡ Ok zero_ℚ
  decimal_zero n z t = ap (λ k. decimal_value s k e) (t.value ∙ zero-mul (10 ^ z))

  wide_power : (m : ℕ) (p : ℤ) → wide m ≡ true → power_value s m p ≡ Err Wide
  wide_power m (pos k) w = ap (λ b. pick (b || (wide (10 ^ k) || wide (m * 10 ^ k))) (Err Wide) (Ok (signed s (m * 10 ^ k) ÷ 1))) w
  wide_power m (negsuc k) w = ap (λ b. pick (b || wide (10 ^ suc k)) (Err Wide) (Ok (signed s m ÷ (10 ^ suc k)))) w

  decimal_long : (n : ℕ) → HasWideSignificand n → decimal_value s n e ≡ Err Wide
  decimal_long n t =
      let long : 2 ^ 127 ≤ t.m = t.long in
      let most : 0 < 2 ^ 127 = lit< tt in
      decimal_found n t.m t.z (omega arith) t.trimmed ∙ wide_power t.m (e +ℤ pos t.z) (wide_where t.m t.long)

some_digit : (n : ℕ) (ds : List ℕ) → 0 < n → number ds ≡ n → is_nothing ds ≡ false
some_digit n [] h e = absurd (omega (arith, e))
some_digit n (d ∷ ds) h e = refl

-- digits of which there are some, with an exponent
pub with_digits_value : (s : Bool) (ds ps rest : List ℕ) (e : ℤ) → is_nothing (ds ++ ps) ≡ false → Some e ≡ exponent rest → literal_value s (decimal_literal ds ps rest) ≡ decimal_value s (number (ds ++ ps)) (e +ℤ neg_ℤ (pos (length ps)))
with_digits_value s ds ps rest e h f =
    ap (λ b. literal_value s (pick b no_number (with_exponent (number (ds ++ ps)) (length ps) (exponent rest)))) h
    ∙ ap (λ x. literal_value s (with_exponent (number (ds ++ ps)) (length ps) x)) (sym f)

pub long_value : (s : Bool) (ds ps rest : List ℕ) (e : ℤ) → Some e ≡ exponent rest → HasWideSignificand (number (ds ++ ps)) → Err Wide ≡ literal_value s (decimal_literal ds ps rest)
long_value s ds ps rest e f t =
    let long : 2 ^ 127 ≤ t.m = t.long in
    let most : 0 < 2 ^ 127 = lit< tt in
    let some : t.m ≤ t.m * 10 ^ t.z = ten_times t.m t.z in
    let there : is_nothing (ds ++ ps) ≡ false = some_digit (t.m * 10 ^ t.z) (ds ++ ps) (omega arith) t.trimmed.value in
    sym (with_digits_value s ds ps rest e there f ∙ decimal_long s (e +ℤ neg_ℤ (pos (length ps))) (number (ds ++ ps)) t)

pub zero_value : (s : Bool) (ds ps rest : List ℕ) (e : ℤ) (z : ℕ) → is_nothing (ds ++ ps) ≡ false → Some e ≡ exponent rest → IsTrimmed (number (ds ++ ps)) 0 z → Ok zero_ℚ ≡ literal_value s (decimal_literal ds ps rest)
zero_value s ds ps rest e z h f t = sym (with_digits_value s ds ps rest e h f ∙ decimal_zero s (e +ℤ neg_ℤ (pos (length ps))) (number (ds ++ ps)) z t)

pub found_value : (s : Bool) (ds ps rest : List ℕ) (e : ℤ) (m z : ℕ) → 0 < m → Some e ≡ exponent rest → IsTrimmed (number (ds ++ ps)) m z → power_value s m ((e +ℤ neg_ℤ (pos (length ps))) +ℤ pos z) ≡ literal_value s (decimal_literal ds ps rest)
found_value s ds ps rest e m z h f t =
    let some : m ≤ m * 10 ^ z = ten_times m z in
    let there : is_nothing (ds ++ ps) ≡ false = some_digit (m * 10 ^ z) (ds ++ ps) (omega arith) t.value in
    sym (with_digits_value s ds ps rest e there f ∙ decimal_found s (e +ℤ neg_ℤ (pos (length ps))) (number (ds ++ ps)) m z h t)

pub some_left : (ds ps : List ℕ) → false ≡ length ds == 0 → is_nothing (ds ++ ps) ≡ false
some_left [] ps n = absurd (cc)
some_left (d ∷ ds) ps n = refl

pub some_right : (ds ps : List ℕ) → false ≡ length ps == 0 → is_nothing (ds ++ ps) ≡ false
some_right [] [] n = absurd (cc)
some_right [] (p ∷ ps) n = refl
some_right (d ∷ ds) ps n = refl
