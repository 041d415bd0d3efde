-- Probabilities over a denominator that they share.
use Rattle.std.specs.Prelude.{◌≡◌, ℕ, ◌+◌, ◌≤◌, pos, List, [], ◌∷◌, Ok}
use Rattle.rationals.specs.Rational.{◌÷◌}
use Rattle.scen_defs.specs.Program.{Scenario}
use Rattle.scen_tree.specs.declared.position.Position.{Position}
use Rattle.edit_chances.specs.Scaled.{tested_walk}

-- each probability is a whole number of portions of 1 / d, and together they are at most so many
abbrev pub HavePortions : ℕ → ℕ → List Scenario → Type 0
HavePortions d all [] = Unit {0}
HavePortions d all (s ∷ ss) = (own : ℕ) × (rest : ℕ) × (s.probability ≡ pos own ÷ d) × (own + rest ≤ all) × HavePortions d rest ss

-- wherever nodes stand, no operation of their totals and shares passes
abbrev pub FitsAllTrees : List Scenario → Type 0
FitsAllTrees ss = (positions : List Position) → tested_walk positions ss ≡ Ok ss
