-- Each number is read as it is printed.
use Rattle.std.proofs.Common.{◌≡◌, ◌∙◌, ◌^◌, ◌<◌, ℕ, pos, Bool, true, false, Option, Some, None, Ok, nat_lt, refl}
use Rattle.std.proofs.Common.{sym, ap, arith, lit≤}
use Rattle.std.specs.Prelude.{codes, IfSome}
use Rattle.std.specs.Fmt.{decimal}
use Rattle.std.proofs.lemmas.Bool.Decides.{nat_tests}
use Rattle.rationals.specs.Rational.{ℚ}
use Rattle.rationals.specs.Choices.{pick}
use Rattle.rationals.specs.Passes.{IsNarrow}
use Rattle.frac128.specs.Numbers.{read_number}
use Rattle.frac128.specs.Text.{text_of}
use Rattle.frac128.proofs.ReadBack.{read_back}
use Rattle.smps_words.specs.Names.{same_name}
use Rattle.smps_words.proofs.NumberedNames.{same_name_refl}
use Rattle.report_text.specs.Text.{end_text}
use Rattle.report_reader.specs.Answers.{bad}
use Rattle.report_reader.specs.Numbers.{printed, fraction, end_value, end_of, counted, count_by, count, small}
use Rattle.report_reader.proofs.TextLemmas.{same}
use Rattle.report_laws.proofs.WordLemmas.{then_ok, narrow_parts}

-- ---- fractions
pub fraction_read : (v : ℚ) → IsNarrow v → fraction (text_of v) ≡ Ok v
fraction_read v h =
    let p = narrow_parts v h in
    let read : read_number (text_of v) ≡ Ok v = read_back v p.0 p.1 in
    ap (printed (text_of v)) read ∙ ap (λ (b : Bool). pick b (Ok v) bad) (same_name_refl (text_of v))

-- no number is printed as none
not_none : (v : ℚ) → IsNarrow v → (b : Bool) → same_name (text_of v) (codes "none") ≡ b
    → same_name (text_of v) (codes "none") ≡ false
not_none v h true e =
    let p = narrow_parts v h in
    let read : read_number (codes "none") ≡ Ok v = ap read_number (sym (same (text_of v) (codes "none") e)) ∙ read_back v p.0 p.1 in
    absurd (cc (read))
not_none v h false e = e

pub end_read : (end : Option ℚ) → IfSome end IsNarrow → end_of (end_text end) ≡ Ok end
end_read None h = refl
end_read (Some v) h =
    ap (λ (b : Bool). end_value b (text_of v)) (not_none v h (same_name (text_of v) (codes "none")) refl)
    ∙ then_ok v (λ value. Ok (Some value)) (fraction_read v h) refl

-- ---- whole numbers
whole : ℕ → ℚ
whole n = record { num = pos n; den = 1; den_pos = omega arith; least = λ m e above below. absurd (omega arith) }

pub count_read : (n : ℕ) → n < 2 ^ 64 → count (decimal n) ≡ Ok n
unfolding whole
count_read n h =
    let wider : 2 ^ 64 < 2 ^ 127 = lit≤ tt in
    let read : read_number (decimal n) ≡ Ok (whole n) = read_back (whole n) (omega (arith, h, wider)) (lit≤ tt) in
    let below : nat_lt n (2 ^ 64) ≡ true = grind (arith, nat_tests) in
    ap (count_by (decimal n)) read ∙ ap (λ (b : Bool). counted (decimal n) (pick b (Some n) None)) below
    ∙ ap (λ (b : Bool). pick b (Ok n) bad) (same_name_refl (decimal n))

pub small_read : (n : ℕ) → n < 2 ^ 32 → small (decimal n) ≡ Ok n
small_read n h =
    let wider : 2 ^ 32 < 2 ^ 64 = lit≤ tt in
    let below : nat_lt n (2 ^ 32) ≡ true = grind (arith, nat_tests) in
    then_ok n (λ m. pick (nat_lt m (2 ^ 32)) (Ok m) bad) (count_read n (omega (arith, h, wider)))
    (ap (λ (b : Bool). pick b (Ok n) bad) below)
