-- Decimals with many digits: only the zeros at their end are gone through.
use Rattle.std.proofs.Common.{◌≡◌, ℕ, suc, ℤ, pos, Bool, true, false, List, Result, ap, refl, ◌∙◌}
use Rattle.std.specs.Prelude.{◌%◌, ◌/◌, ◌==◌, ◌+ℤ◌}
use Rattle.rationals.specs.Rational.{ℚ}
use Rattle.frac128.specs.declared.text.NumFault.{NumFault}
use Rattle.frac128.specs.Numbers.{literal, literal_value, power_value, trim, is_negative, after_sign, read_number}
use Rattle.frac128.specs.Numbers.Literal.{decimal}

stops : (k n : ℕ) (e : ℤ) → (n % 10 == 0) ≡ false → trim (suc k) n e ≡ (n, e)
stops k n e h = rw h refl

-- one zero
shortens : (k n : ℕ) (e : ℤ) → (n % 10 == 0) ≡ true → trim (suc k) n e ≡ trim k (n / 10) (e +ℤ pos 1)
shortens k n e h = rw h refl

power : Bool → ℕ × ℤ → Result ℚ NumFault
power s p = power_value s p.0 p.1

-- the last digit isn't 0
pub reads_long : (bs : List ℕ) (n : ℕ) (e : ℤ) (v : Result ℚ NumFault) → literal (after_sign bs) ≡ decimal (suc n) e
    → (suc n % 10 == 0) ≡ false → power_value (is_negative bs) (suc n) e ≡ v → read_number bs ≡ v
unfolding power
reads_long bs n e v l h p = ap (literal_value (is_negative bs)) l ∙ ap (power (is_negative bs)) (stops n (suc n) e h) ∙ p

-- the last digit is 0, and the one before it isn't
pub reads_shortened : (bs : List ℕ) (n : ℕ) (e : ℤ) (v : Result ℚ NumFault) → literal (after_sign bs) ≡ decimal (suc (suc n)) e
    → (suc (suc n) % 10 == 0) ≡ true → ((suc (suc n) / 10) % 10 == 0) ≡ false
    → power_value (is_negative bs) (suc (suc n) / 10) (e +ℤ pos 1) ≡ v → read_number bs ≡ v
unfolding power
reads_shortened bs n e v l h k p =
    ap (literal_value (is_negative bs)) l
    ∙ ap (power (is_negative bs)) (shortens (suc n) (suc (suc n)) e h ∙ stops n (suc (suc n) / 10) (e +ℤ pos 1) k)
    ∙ p
