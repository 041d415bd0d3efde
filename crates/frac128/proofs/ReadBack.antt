-- The text of a number is read as that number.
use Rattle.std.proofs.Common.{◌≡◌, ℕ, zero, suc, ◌+◌, ◌*◌, ◌/◌, ◌%◌, ◌^◌, ◌<◌, ◌≤◌, Bool, true, false, List, [], ◌∷◌, ◌++◌, Ok, Err, Some, refl, sym, ap, ap₂, ◌∙◌, arith, ℤ, pos, negsuc, append-nil, lit≤}
use Rattle.std.specs.Prelude.{◌==◌, ◌||◌, ◌&&◌, unsigned_abs, leb, ◌+ℤ◌}
use Rattle.std.proofs.lemmas.Int.{ints}
use Rattle.frac128.specs.declared.text.NumFault.TheVariants.{Wide}
use Rattle.std.specs.Fmt.{decimal, signed_decimal}
use Rattle.std.proofs.lemmas.Bool.{and_parts, and_from, or_from, leb-true, le-leb, lt-leb, eqb-true, ne_eqb}
use Rattle.std.proofs.lemmas.Fmt.{decimal_by_steps_wide}
use native.Mathlib.Nat.{pow-zero}
use Rattle.rationals.specs.Rational.{ℚ, ◌÷◌, zero_ℚ, frac_self}
use Rattle.rationals.specs.Passes.{wide}
use Rattle.rationals.specs.Choices.{pick}
use Rattle.ratio128.specs.Ratio.{signed}
use Rattle.frac128.specs.Text.{text_of, text_by}
use Rattle.frac128.specs.Numbers.{slash, decimal_literal, with_exponent, is_digit, digits, after_digits, number, is_nothing, is_negative, after_sign, plus, minus, literal, literal_after, fraction_literal, literal_value, decimal_value, power_value, read_number}
use Rattle.frac128.specs.Numbers.Literal.{no_number, fraction}
use Rattle.frac128.specs.Significand.{IsTrimmed}
use Rattle.frac128.proofs.SignificandLemmas.{one_zero, ten_times}
use Rattle.frac128.proofs.LiteralLemmas.{number_from-append, decimal_found}

-- each is a digit
abbrev pub Digits : List ℕ → Type 0
Digits [] = Unit {0}
Digits (d ∷ ds) = (is_digit d ≡ true) × Digits ds

-- ds are the digits of n
pub record AreDigitsOf (n : ℕ) (ds : List ℕ) : Type 0 where
  pub all : Digits ds
  pub some : is_nothing ds ≡ false
  pub value : number ds ≡ n

-- ---- the digits of a number

digit_is : (n : ℕ) → n < 10 → is_digit (48 + n) ≡ true
digit_is n h = and_from _ _ (le-leb 48 (48 + n) (omega arith)) (le-leb (48 + n) 57 (omega arith))

digits_more : (ds : List ℕ) (d : ℕ) → Digits ds → is_digit d ≡ true → Digits (ds ++ d ∷ [])
digits_more [] d a h = (h, tt)
digits_more (e ∷ ds) d a h = (a.0, digits_more ds d a.1 h)

some_more : (ds : List ℕ) (d : ℕ) → is_nothing (ds ++ d ∷ []) ≡ false
some_more [] d = refl
some_more (e ∷ ds) d = refl

decimal_digits : (n : ℕ) → n < 10 ^ 64 → AreDigitsOf n (decimal n)
decimal_digits = decimal_by_steps_wide AreDigitsOf one more
  where
    one : (n : ℕ) → n < 10 → AreDigitsOf n ((48 + n) ∷ [])
    one n h = record { all = (digit_is n h, tt); some = refl; value = omega arith }

    more : (n : ℕ) (ds : List ℕ) → 10 ≤ n → AreDigitsOf (n / 10) ds → AreDigitsOf n (ds ++ ((48 + n % 10) ∷ []))
    more n ds h a =
        let v : number ds ≡ n / 10 = a.value in
        record {
          all = digits_more ds (48 + n % 10) a.all (digit_is (n % 10) (omega arith));
          some = some_more ds (48 + n % 10);
          value = number_from-append 0 ds ((48 + n % 10) ∷ []) ∙ omega (arith, v);
        }

-- ---- digits at the start of a text

digits-append : (ds bs : List ℕ) → Digits ds → digits (ds ++ bs) ≡ ds ++ digits bs
digits-append [] bs a = refl
digits-append (d ∷ ds) bs a = ap (λ t. pick t (d ∷ digits (ds ++ bs)) []) a.0 ∙ ap (λ l. d ∷ l) (digits-append ds bs a.1)

after_digits-append : (ds bs : List ℕ) → Digits ds → after_digits (ds ++ bs) ≡ after_digits bs
after_digits-append [] bs a = refl
after_digits-append (d ∷ ds) bs a = ap (λ t. pick t (after_digits (ds ++ bs)) (d ∷ ds ++ bs)) a.0 ∙ after_digits-append ds bs a.1

no_sign : (d c : ℕ) → is_digit d ≡ true → c < 48 → d == c ≡ false
no_sign d c h k = let low : 48 ≤ d = leb-true 48 d (and_parts _ _ h).0 in ne_eqb d c (λ e. absurd (omega (arith, e)))

after_no_sign : (ds bs : List ℕ) → Digits ds → is_nothing ds ≡ false → after_sign (ds ++ bs) ≡ ds ++ bs
after_no_sign [] bs a h = absurd (cc)
after_no_sign (d ∷ ds) bs a h = ap (λ t. pick t (ds ++ bs) (d ∷ ds ++ bs)) (or_from (d == plus) (d == minus) (no_sign d plus a.0 (omega arith)) (no_sign d minus a.0 (omega arith)))

not_negative : (ds bs : List ℕ) → Digits ds → is_nothing ds ≡ false → is_negative (ds ++ bs) ≡ false
not_negative [] bs a h = absurd (cc)
not_negative (d ∷ ds) bs a h = no_sign d minus a.0 (omega arith)

-- ---- the value of a whole number

pub record HasTrimmed (n : ℕ) : Type 0 where
  pub m : ℕ
  pub z : ℕ
  pub above : 0 < m
  pub trimmed : IsTrimmed n m z

pub trims : (k n : ℕ) → n ≤ k → 0 < n → HasTrimmed n
trims zero n h p = absurd (omega arith)
trims (suc k) n h p = go (n % 10 == 0) refl (trims k (n / 10))
  where
    go : (b : Bool) → n % 10 == 0 ≡ b → (n / 10 ≤ k → 0 < n / 10 → HasTrimmed (n / 10)) → HasTrimmed n
    go true e again =
        let ten : n % 10 ≡ 0 = eqb-true (n % 10) 0 e in
        let t = again (omega (arith, ten)) (omega (arith, ten)) in
        let v : n / 10 ≡ t.m * 10 ^ t.z = t.trimmed.value in
        let w : t.m * 10 ^ (t.z + 1) ≡ (t.m * 10 ^ t.z) * 10 = one_zero t.m t.z in
        record { m = t.m; z = t.z + 1; above = t.above; trimmed = record { value = omega (arith, ten, v, w); last = t.trimmed.last } }
    go false e again =
        record { m = n; z = 0; above = p; trimmed = record { value = rw (pow-zero 10) (omega arith); last = λ q. absurd (cc) } }

narrow : (n : ℕ) → n < 2 ^ 127 → wide n ≡ false
narrow n h = lt-leb (2 ^ 127) n h

ten_times_left : (m z : ℕ) → 0 < m → 10 ^ z ≤ m * 10 ^ z
ten_times_left zero z h = absurd (omega arith)
ten_times_left (suc m) z h = grind arith

whole_value : (s : Bool) (n : ℕ) → 0 < n → n < 2 ^ 127 → decimal_value s n (pos 0) ≡ Ok (signed s n ÷ 1)
whole_value s n p h =
    let t = trims n n (omega arith) p in
    let v : n ≡ t.m * 10 ^ t.z = t.trimmed.value in
    let first : t.m ≤ t.m * 10 ^ t.z = ten_times t.m t.z in
    let second : 10 ^ t.z ≤ t.m * 10 ^ t.z = ten_times_left t.m t.z t.above in
    let fits : wide t.m || (wide (10 ^ t.z) || wide (t.m * 10 ^ t.z)) ≡ false =
    or_from _ _ (narrow t.m (omega (arith, v))) (or_from _ _ (narrow (10 ^ t.z) (omega (arith, v))) (narrow (t.m * 10 ^ t.z) (omega (arith, v)))) in
    let power : pos 0 +ℤ pos t.z ≡ pos t.z = omega (arith, ints) in
    decimal_found s (pos 0) n t.m t.z t.above t.trimmed ∙ ap (power_value s t.m) power
    ∙ ap (λ b. pick b (Err Wide) (Ok (signed s (t.m * 10 ^ t.z) ÷ 1))) fits ∙ ap (λ k. Ok (signed s k ÷ 1)) (sym v)

pub zero_is : (s : Bool) → zero_ℚ ≡ signed s 0 ÷ 1
unfolding zero_ℚ
zero_is true = refl
zero_is false = refl

small_value : (s : Bool) (n : ℕ) → n < 2 ^ 127 → decimal_value s n (pos 0) ≡ Ok (signed s n ÷ 1)
small_value s zero h = ap Ok (zero_is s)
small_value s (suc n) h = whole_value s (suc n) (omega arith) h

-- ---- literals

module _ (s : Bool) (n : ℕ) (ds : List ℕ) (a : AreDigitsOf n ds) (h : n < 2 ^ 127) where
  pub whole_is : literal_value s (literal ds) ≡ Ok (signed s n ÷ 1)
  whole_is =
      let same : ds ++ [] ≡ ds = append-nil ds in
      let e : literal ds ≡ decimal_literal ds [] [] =
      ap₂ literal_after (ap digits (sym same) ∙ digits-append ds [] a.all ∙ same) (ap after_digits (sym same) ∙ after_digits-append ds [] a.all) in
      let some : is_nothing (ds ++ []) ≡ false = ap is_nothing same ∙ a.some in
      ap (literal_value s) e ∙ ap (λ b. literal_value s (pick b no_number (with_exponent (number (ds ++ [])) 0 (Some (pos 0))))) some
      ∙ ap (λ k. decimal_value s k (pos 0)) (ap number same ∙ a.value) ∙ small_value s n h

  module _ (d : ℕ) (bs : List ℕ) (b : AreDigitsOf d bs) (p : 0 < d) (k : d < 2 ^ 127) where
    below : after_digits bs ≡ []
    below = ap after_digits (sym (append-nil bs)) ∙ after_digits-append bs [] b.all

    pub fraction_is : literal_value s (literal (ds ++ slash ∷ bs)) ≡ Ok (signed s n ÷ d)
    fraction_is =
        let same : ds ++ [] ≡ ds = append-nil ds in
        let e : literal (ds ++ slash ∷ bs) ≡ fraction_literal ds bs =
        ap₂ literal_after (digits-append ds (slash ∷ bs) a.all ∙ same) (after_digits-append ds (slash ∷ bs) a.all) in
        let v : number bs ≡ d = b.value in
        let whole : is_nothing (after_digits bs) && leb 1 (number bs) ≡ true = and_from _ _ (ap is_nothing below) (le-leb 1 (number bs) (omega (arith, v))) in
        ap (literal_value s) e ∙ ap (λ t. literal_value s (pick t no_number (pick (is_nothing (after_digits bs) && leb 1 (number bs)) (fraction (number ds) (number bs)) no_number))) a.some
        ∙ ap (λ t. literal_value s (pick t (fraction (number ds) (number bs)) no_number)) whole
        ∙ ap₂ (λ i j. literal_value s (fraction i j)) a.value b.value
        ∙ ap (λ t. pick t (Err Wide) (Ok (signed s n ÷ d))) (or_from _ _ (narrow n h) (narrow d k))

-- ---- signs

wide_enough : 2 ^ 127 ≤ 10 ^ 64
wide_enough = lit≤ tt

-- what follows the digits of a numerator
rest_of : Bool → ℕ → List ℕ
rest_of true d = []
rest_of false d = slash ∷ decimal d

parts_value : (s whole : Bool) (n d : ℕ) → d == 1 ≡ whole → n < 2 ^ 127 → 0 < d → d < 2 ^ 127 → literal_value s (literal (decimal n ++ rest_of whole d)) ≡ Ok (signed s n ÷ d)
unfolding rest_of
parts_value s true n d e h p k =
    let le : 2 ^ 127 ≤ 10 ^ 64 = wide_enough in
    ap (λ l. literal_value s (literal l)) (append-nil (decimal n)) ∙ whole_is s n (decimal n) (decimal_digits n (omega arith)) h
    ∙ ap (λ j. Ok (signed s n ÷ j)) (sym (eqb-true d 1 e))
parts_value s false n d e h p k =
    let le : 2 ^ 127 ≤ 10 ^ 64 = wide_enough in
    fraction_is s n (decimal n) (decimal_digits n (omega arith)) h d (decimal d) (decimal_digits d (omega arith)) p k

signed_text : (n : ℤ) (whole : Bool) (d : ℕ) → text_by whole n d ≡ signed_decimal n ++ rest_of whole d
unfolding rest_of
signed_text n true d = sym (append-nil (signed_decimal n))
signed_text n false d = refl

sign_value : (n : ℤ) (whole : Bool) (d : ℕ) → d == 1 ≡ whole → unsigned_abs n < 2 ^ 127 → 0 < d → d < 2 ^ 127 → read_number (signed_decimal n ++ rest_of whole d) ≡ Ok (n ÷ d)
sign_value (pos n) whole d e h p k =
    let le : 2 ^ 127 ≤ 10 ^ 64 = wide_enough in
    let a = decimal_digits n (omega arith) in
    ap₂ (λ t l. literal_value t (literal l)) (not_negative (decimal n) (rest_of whole d) a.all a.some) (after_no_sign (decimal n) (rest_of whole d) a.all a.some)
    ∙ parts_value false whole n d e h p k
sign_value (negsuc n) whole d e h p k = parts_value true whole (suc n) d e h p k

pub read_back : (a : ℚ) → unsigned_abs a.num < 2 ^ 127 → a.den < 2 ^ 127 → read_number (text_of a) ≡ Ok a
read_back a h k =
    ap read_number (signed_text a.num (a.den == 1) a.den) ∙ sign_value a.num (a.den == 1) a.den refl h a.den_pos k ∙ ap Ok (frac_self a)
