-- The sums of all nodes at once, scenario by scenario.
use Rattle.std.specs.Prelude.{ℕ, zero, suc, List, [], ◌∷◌, Result, Ok, Err}
use Rattle.rationals.specs.Rational.{ℚ, zero_ℚ}
use Rattle.rationals.specs.Passes.{add_walk, then_walk}
use Rattle.rationals.specs.Choices.{pick}
use Rattle.scen_defs.specs.Lists.{is_in}
use Rattle.scen_defs.specs.Program.{Scenario}
use Rattle.scen_defs.specs.Walks.{total_from}
use Rattle.scen_tree.specs.Chances.{Sum}

-- a sum and a further probability
abbrev pub more : ℚ → Sum → Sum
more probability sum = then_walk sum (λ total. add_walk total probability)

-- the sums, of which the first is of node n, with the probability of a scenario of that path
abbrev pub with_path : List ℕ → ℚ → ℕ → List Sum → List Sum
with_path path probability n [] = []
with_path path probability n (sum ∷ sums) = pick (is_in n path) (more probability sum) sum ∷ with_path path probability (suc n) sums

-- the sums of so many nodes, the first of which has the number n
abbrev pub sums_through : ℕ → ℕ → List Scenario → List Sum
sums_through n zero scenarios = []
sums_through n (suc count) scenarios = total_from n zero_ℚ scenarios ∷ sums_through (suc n) count scenarios
