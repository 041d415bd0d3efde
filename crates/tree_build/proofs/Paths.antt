-- Paths of scenarios, and that their probabilities are above 0.
use Rattle.std.proofs.Common.{◌≡◌, ap, refl, ℕ, zero, suc, ◌<◌, Bool, true, false, ◌||◌, eqb, List, [], ◌∷◌, length, get_or, arith}
use Rattle.std.proofs.lemmas.Bool.{eq-eqb}
use Rattle.rationals.specs.Rational.{zero_ℚ, ◌<ℚ◌}
use Rattle.scen_defs.specs.Lists.{is_in}
use Rattle.scen_defs.specs.Program.{Scenario}

abbrev pub IsPositive : Scenario → Type 0
IsPositive s = zero_ℚ <ℚ s.probability

abbrev pub path_of : Scenario → List ℕ
path_of s = s.path

pub is_in_at : (path : List ℕ) (k n : ℕ) → k < length path → get_or path k 0 ≡ n → is_in n path ≡ true
is_in_at [] k n below is = absurd (omega (arith, below))
is_in_at (x ∷ path) zero n below is = ap (λ b. b || is_in n path) (eq-eqb x n is)
is_in_at (x ∷ path) (suc k) n below is = go (eqb x n) (is_in_at path k n (omega (arith, below)) is)
  where
    go : (b : Bool) → is_in n path ≡ true → (b || is_in n path) ≡ true
    go true later = refl
    go false later = later
