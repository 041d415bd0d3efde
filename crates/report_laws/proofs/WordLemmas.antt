-- Words without a space or a line feed, and how they are read.
use Rattle.std.proofs.Common.{◌≡◌, ◌∙◌, ◌+◌, ◌^◌, ◌<◌, ◌≤◌, ◌%◌, ◌++◌, ◌&&◌, ◌==◌, ℕ, ℤ}
use Rattle.std.proofs.Common.{pos, negsuc, suc, Bool, true, false, List, [], ◌∷◌, Some, Result, Ok, nat_eq, refl, ap, arith, lit≤}
use Rattle.std.specs.Prelude.{not, unsigned_abs}
use Rattle.std.specs.Fmt.{decimal, signed_decimal}
use Rattle.std.proofs.lemmas.Bool.{and_parts, and_from, or_parts, leb-false, ne_eqb, not-true}
use Rattle.std.proofs.lemmas.Bool.Decides.{nat_tests}
use Rattle.std.proofs.lemmas.Fmt.{decimal_by_steps_wide}
use Rattle.rationals.specs.Rational.{ℚ}
use Rattle.rationals.specs.Passes.{wide, IsNarrow}
use Rattle.frac128.specs.Text.{text_of, text_by}
use Rattle.refusals.specs.declared.cause.Cause.{Cause}
use Rattle.report_reader.specs.Answers.{on_ok}
use Rattle.report_reader.specs.Pieces.{after, cut, cut_field, field, lines_of}

-- the byte stands nowhere in a text
abbrev pub lacks : ℕ → List ℕ → Bool
lacks byte [] = true
lacks byte (first ∷ text) = not (nat_eq first byte) && lacks byte text

pub lacks-append : (byte : ℕ) (a b : List ℕ) → lacks byte a ≡ true → lacks byte b ≡ true → lacks byte (a ++ b) ≡ true
lacks-append byte [] b h k = k
lacks-append byte (first ∷ a) b h k =
    let p = and_parts (not (nat_eq first byte)) (lacks byte a) h in
    and_from (not (nat_eq first byte)) (lacks byte (a ++ b)) p.0 (lacks-append byte a b p.1 k)

-- what is read behind what was read
pub then_ok : {X Y : Type 0} {read : Result X Cause} (x : X) (f : X → Result Y Cause) {r : Result Y Cause} → read ≡ Ok x
    → f x ≡ r → on_ok read f ≡ r
then_ok x f e h = ap (λ read. on_ok read f) e ∙ h

-- ---- pieces

pub after_word : (word rest : List ℕ) → after word (word ++ rest) ≡ Ok rest
after_word [] rest = refl
after_word (byte ∷ word) rest = let here : nat_eq byte byte ≡ true = grind (arith, nat_tests) in rw here (after_word word rest)

cut_word : (byte : ℕ) (word rest : List ℕ) → lacks byte word ≡ true → cut byte (word ++ byte ∷ rest) ≡ Some (word, rest)
cut_word byte [] rest h = let here : nat_eq byte byte ≡ true = grind (arith, nat_tests) in rw here refl
cut_word byte (first ∷ word) rest h =
    let p = and_parts (not (nat_eq first byte)) (lacks byte word) h in
    let here : nat_eq first byte ≡ false = not-true (nat_eq first byte) p.0 in
    rw (here, cut_word byte word rest p.1) refl

pub field_word : (word rest : List ℕ) → lacks 32 word ≡ true → field (word ++ 32 ∷ rest) ≡ Ok (word, rest)
field_word word rest h = ap cut_field (cut_word 32 word rest h)

-- a line that ends in a line feed is the first line
pub first_line : (line rest : List ℕ) → lacks 10 line ≡ true
    → lines_of (line ++ 10 ∷ rest) ≡ record { ended = line ∷ (lines_of rest).ended; rest = (lines_of rest).rest }
first_line [] rest h = refl
first_line (first ∷ line) rest h =
    let p = and_parts (not (nat_eq first 10)) (lacks 10 line) h in
    let here : nat_eq first 10 ≡ false = not-true (nat_eq first 10) p.0 in
    rw (here, first_line line rest p.1) refl

-- ---- numbers

digit_lacks : (byte n : ℕ) → byte < 45 → lacks byte ((48 + n) ∷ []) ≡ true
digit_lacks byte n h = let here : nat_eq (48 + n) byte ≡ false = ne_eqb (48 + n) byte (λ e. absurd (omega (arith, e))) in rw here refl

decimal_lacks : (byte n : ℕ) → byte < 45 → n < 10 ^ 64 → lacks byte (decimal n) ≡ true
decimal_lacks byte n h = decimal_by_steps_wide (λ k ds. lacks byte ds ≡ true) one more n
  where
    one : (k : ℕ) → k < 10 → lacks byte ((48 + k) ∷ []) ≡ true
    one k l = digit_lacks byte k h

    more : (k : ℕ) (ds : List ℕ) → 10 ≤ k → lacks byte ds ≡ true → lacks byte (ds ++ ((48 + k % 10) ∷ [])) ≡ true
    more k ds l a = lacks-append byte ds ((48 + k % 10) ∷ []) a (digit_lacks byte (k % 10) h)

pub count_lacks : (byte n : ℕ) → byte < 45 → n < 2 ^ 64 → lacks byte (decimal n) ≡ true
count_lacks byte n h k = let wider : 2 ^ 64 < 10 ^ 64 = lit≤ tt in decimal_lacks byte n h (omega (arith, k, wider))

pub small_lacks : (byte n : ℕ) → byte < 45 → n < 2 ^ 32 → lacks byte (decimal n) ≡ true
small_lacks byte n h k = count_lacks byte n h (omega (arith, k))

signed_lacks : (byte : ℕ) (z : ℤ) → byte < 45 → unsigned_abs z < 10 ^ 64 → lacks byte (signed_decimal z) ≡ true
signed_lacks byte (pos n) h k = decimal_lacks byte n h k
signed_lacks byte (negsuc n) h k =
    let sign : nat_eq 45 byte ≡ false = ne_eqb 45 byte (λ e. absurd (omega (arith, e))) in
    rw sign (decimal_lacks byte (suc n) h k)

text_by_lacks : (byte : ℕ) (b : Bool) (z : ℤ) (d : ℕ) → byte < 45 → unsigned_abs z < 10 ^ 64 → d < 10 ^ 64
    → lacks byte (text_by b z d) ≡ true
text_by_lacks byte true z d h k l = signed_lacks byte z h k
text_by_lacks byte false z d h k l =
    let slash : nat_eq 47 byte ≡ false = ne_eqb 47 byte (λ e. absurd (omega (arith, e))) in
    let below : lacks byte (47 ∷ decimal d) ≡ true = rw slash (decimal_lacks byte d h l) in
    lacks-append byte (signed_decimal z) (47 ∷ decimal d) (signed_lacks byte z h k) below

-- the parts of a fraction of 128 bits
pub narrow_parts : (v : ℚ) → IsNarrow v → (unsigned_abs v.num < 2 ^ 127) × (v.den < 2 ^ 127)
narrow_parts v h =
    let p = or_parts (wide (unsigned_abs v.num)) (wide v.den) h in
    (leb-false (2 ^ 127) (unsigned_abs v.num) p.0, leb-false (2 ^ 127) v.den p.1)

pub text_lacks : (byte : ℕ) (v : ℚ) → byte < 45 → IsNarrow v → lacks byte (text_of v) ≡ true
text_lacks byte v h k =
    let p = narrow_parts v k in
    let wider : 2 ^ 127 < 10 ^ 64 = lit≤ tt in
    text_by_lacks byte (v.den == 1) v.num v.den h (omega (arith, p.0, wider)) (omega (arith, p.1, wider))
