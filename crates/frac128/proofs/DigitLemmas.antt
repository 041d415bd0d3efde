-- The digits at the start of a text are digits.
use Rattle.std.proofs.Common.{◌≡◌, ◌≤◌, ℕ, Bool, true, false, List, [], ◌∷◌, ◌++◌, refl, arith}
use Rattle.std.proofs.lemmas.Bool.{and_parts, leb-true}
use Rattle.std.specs.Prelude.{leb}
use Rattle.rationals.specs.Choices.{pick}
use Rattle.frac128.specs.Numbers.{is_digit, digits}
use Rattle.frac128.specs.Significand.{AllDigits}

pub all_digits : (bs : List ℕ) → AllDigits (digits bs)
all_digits [] = tt
all_digits (b ∷ bs) = go (is_digit b) refl (all_digits bs)
  where
    go : (t : Bool) → is_digit b ≡ t → AllDigits (digits bs) → AllDigits (pick t (b ∷ digits bs) [])
    go true e rest = let h : b ≤ 57 = leb-true b 57 (and_parts (leb 48 b) (leb b 57) e).1 in (omega (arith, h), rest)
    go false e rest = tt

pub all_left : (ds ps : List ℕ) → AllDigits (ds ++ ps) → AllDigits ds
all_left [] ps a = tt
all_left (d ∷ ds) ps a = (a.0, all_left ds ps a.1)
