-- Digits of numbers.
use Rattle.std.proofs.Common.{◌≡◌, ◌∙◌, ap, ℕ, zero, suc, ◌+◌, ◌-◌, ◌/◌, ◌%◌, ◌≤◌, false, [], ◌∷◌, ◌++◌, nat_lt, refl, arith, if◌then◌else◌}
use Rattle.std.proofs.lemmas.Bool.Decides.{nat_tests}
use Rattle.build_defs.specs.Digits.{digits_in}

pub digits_step : (room n : ℕ) → (room ≡ 0 → ⊥) → 10 ≤ n → digits_in room n ≡ digits_in (room - 1) (n / 10) ++ (48 + n % 10) ∷ []
digits_step zero n some high = absurd (some refl)
digits_step (suc room) n some high =
    let not : nat_lt n 10 ≡ false = grind (arith, nat_tests) in
    ap (λ b. if b then (48 + n) ∷ [] else digits_in room (n / 10) ++ (48 + n % 10) ∷ []) not
    ∙ ap (λ r. digits_in r (n / 10) ++ (48 + n % 10) ∷ []) (let e : room ≡ suc room - 1 = omega arith in e)
