-- Counts of solves, digit by digit.
use Rattle.std.proofs.Common.{◌≡◌, ap, refl, sym, subst, ℕ, suc, ◌+◌, ◌*◌, ◌-◌, ◌<◌, ◌≤◌, Bool, true, false, ◌&&◌, leb, List, [], ◌∷◌, length, drop, get_or, Ok, Err, drop-cons, arith, if◌then◌else◌}
use Rattle.std.proofs.lemmas.Bool.Decides.{nat_tests}
use Rattle.frac128.specs.Numbers.{number_from, number, is_nothing, after_digits}
use Rattle.refusals.specs.declared.cause.Cause.TheVariants as cause
use Rattle.edit_script.specs.Numbers.{count_of}

pub grows : (n : ℕ) (ds : List ℕ) → n ≤ number_from n ds
grows n [] = omega arith
grows n (d ∷ ds) = let more : n * 10 + (d - 48) ≤ number_from (n * 10 + (d - 48)) ds = grows (n * 10 + (d - 48)) ds in omega (arith, more)

not_below : (n m : ℕ) → m < n → leb n m ≡ false
not_below n m above = grind (arith, nat_tests, above)

refused : (digits some few : Bool) (x : ℕ) → few ≡ false → Err cause.NumberBad ≡ (if digits && (some && few) then Ok x else Err cause.NumberBad)
refused true true few x is = subst (λ (b : Bool). Err cause.NumberBad ≡ (if b then Ok x else Err cause.NumberBad)) (sym is) refl
refused true false few x is = refl
refused false some few x is = refl

-- with one more digit the number is too great, and so it stays
pub past : (word : List ℕ) (n i m : ℕ) → number_from n (drop i word) ≡ number word → i < length word → m ≡ get_or word i 0 - 48 → 1000000 < n * 10 + m
    → Err cause.NumberBad ≡ count_of word
past word n i m same within is above =
    let step : number_from n (drop i word) ≡ number_from (n * 10 + (get_or word i 0 - 48)) (drop (suc i) word) = ap (number_from n) (drop-cons word i 0 within) in
    let more : n * 10 + (get_or word i 0 - 48) ≤ number_from (n * 10 + (get_or word i 0 - 48)) (drop (suc i) word) = grows (n * 10 + (get_or word i 0 - 48)) (drop (suc i) word) in
    let big : 1000000 < number word = omega (arith, same, step, more, is, above) in
    refused (is_nothing (after_digits word)) (leb 1 (number word)) (leb (number word) 1000000) (number word) (not_below (number word) 1000000 big)
