-- Numbers at nodes: at (node, column) for a point, at (node, row) for multipliers.
use Rattle.std.specs.Prelude.{◌≡◌, ◌≢◌, ℕ, ◌≤◌, ◌<◌, ◌&&◌, eqb, List, [], ◌∷◌}
use Rattle.rationals.specs.Rational.{ℚ, zero_ℚ}
use Rattle.rationals.specs.Choices.{pick}
use Rattle.scen_defs.specs.Lists.{Each}

pub record At : Type 0 where
  pub node : ℕ
  pub index : ℕ
  pub value : ℚ

-- the number at (n, i) of a list; 0 where it has none
abbrev pub at : List At → ℕ → ℕ → ℚ
at [] n i = zero_ℚ
at (a ∷ values) n i = pick (eqb a.node n && eqb a.index i) a.value (at values n i)

-- it stands at (n, i)
pub record IsAt (n i : ℕ) (a : At) : Type 0 where
  pub node : a.node ≡ n
  pub index : a.index ≡ i

-- it stands before (n, i): at an earlier node, or there at a smaller index
pub record IsBefore (n i : ℕ) (a : At) : Type 0 where
  pub node : a.node ≤ n
  pub index : a.node ≡ n → a.index < i

-- each stands before (n, i)
abbrev pub EndsBefore : List At → ℕ → ℕ → Type 0
EndsBefore values n i = Each (IsBefore n i) values

-- each stands before all that follow it
abbrev pub Rises : List At → Type 0
Rises [] = Unit {0}
Rises (a ∷ values) = Each (λ b. IsBefore b.node b.index a) values × Rises values

-- what holds of every list of values: it rises, and no number is 0
pub record AreValues (values : List At) : Type 0 where
  pub rises : Rises values
  pub nonzero : Each (λ a. a.value ≢ zero_ℚ) values
