-- Weak duality on the whole tree.
use Rattle.std.proofs.Common.{ℕ}
use Rattle.rationals.specs.Rational.{ℚ, zero_ℚ, ◌≤ℚ◌}
use Rattle.scen_defs.specs.Program.{Program, View, view_of, IsTree}
use Rattle.scen_defs.specs.Valid.{IsProgram}
use Rattle.scen_defs.specs.Flat.{Feasible, cost, IsGood, value, ShowsInfeasible, IsDirection, recession, IsRoot}

abbrev pub WeakDuality : Type 0
WeakDuality = (v : View) (x y : ℕ → ℕ → ℚ) → IsTree v → Feasible v x → IsGood v y → value v y ≤ℚ cost v x

abbrev pub InfeasibilityShown : Type 0
InfeasibilityShown = (v : View) (y : ℕ → ℕ → ℚ) → IsTree v → ShowsInfeasible v y
    → (x : ℕ → ℕ → ℚ) → Feasible v x → ⊥

-- below each number there is a feasible point's cost
abbrev pub UnboundednessShown : Type 0
UnboundednessShown = (v : View) (x d : ℕ → ℕ → ℚ) → IsTree v → Feasible v x → IsDirection v d
    → (limit : ℚ) → (z : ℕ → ℕ → ℚ) × Feasible v z × (cost v z ≤ℚ limit)

-- what the type of a program keeps makes a tree, with node 0 as its root
abbrev pub ProgramsAreTrees : Type 0
ProgramsAreTrees = (p : Program) → IsProgram p → IsTree (view_of p) × IsRoot (view_of p) 0

-- what holds of a tree holds of its form without finite ends
abbrev pub RecessionsAreTrees : Type 0
RecessionsAreTrees = (v : View) → IsTree v → IsTree (recession v)

-- multipliers that are good on the recession form, and worth at least 0 there, are good
abbrev pub RecessionMakesGood : Type 0
RecessionMakesGood = (v : View) (y : ℕ → ℕ → ℚ) → IsTree v → IsGood (recession v) y
    → zero_ℚ ≤ℚ value (recession v) y → IsGood v y
