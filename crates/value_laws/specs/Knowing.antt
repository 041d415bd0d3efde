-- Who knows which scenario comes need not pay more than who decides for all that may come.
use Rattle.std.specs.Prelude.{◌≡◌, ℕ, List, [], ◌∷◌, get_or, map}
use Rattle.rationals.specs.Rational.{ℚ}
use Rattle.rationals.specs.Sums.{sum_ℚ, dot}
use Rattle.scen_defs.specs.Lists.{Each}
use Rattle.scen_defs.specs.Program.{Scenario, Program, view_of}
use Rattle.scen_defs.specs.Flat.{Feasible, node_cost, cost}
use Rattle.scen_defs.specs.Valid.{IsProgram}
use Rattle.value_programs.specs.OneScenario.{scenario_program}
use Rattle.value_laws.specs.LowerEnds.{IsLowerEnd}

-- what x decides along a path: at stage k what it decides at the k-th node of the path
abbrev pub values_on : List ℕ → (ℕ → ℕ → ℚ) → ℕ → ℕ → ℚ
values_on path x k j = x (get_or path k 0) j

-- What x decides along the scenario's path is feasible for the program of that scenario alone, and costs there what it costs on the path.
pub record ServesScenario (p : Program) (x : ℕ → ℕ → ℚ) (c : Scenario) : Type 0 where
  pub feasible : Feasible (view_of (scenario_program p c)) (values_on c.path x)
  pub costs : cost (view_of (scenario_program p c)) (values_on c.path x) ≡ sum_ℚ (node_cost (view_of p) x) c.path

-- A feasible point serves each scenario: who knows that it comes can do what the point does there, at its cost there.
abbrev pub FeasiblePointsServe : Type 0
FeasiblePointsServe = (p : Program) (x : ℕ → ℕ → ℚ) → IsProgram p → Feasible (view_of p) x → Each (ServesScenario p x) p.scenarios

-- one number for each of these scenarios, in their order, which no feasible point of its program costs less than
abbrev pub AreLowerEnds : Program → List Scenario → List ℚ → Type 0
AreLowerEnds p [] [] = Unit {0}
AreLowerEnds p [] (end ∷ ends) = ⊥
AreLowerEnds p (c ∷ cs) [] = ⊥
AreLowerEnds p (c ∷ cs) (end ∷ ends) = IsLowerEnd (scenario_program p c) end × AreLowerEnds p cs ends

-- So the sum of probability times such a number over all scenarios is one that no feasible point of the program costs less than.
abbrev pub ExpectedEndsAreLower : Type 0
ExpectedEndsAreLower = (p : Program) (ends : List ℚ) → IsProgram p → AreLowerEnds p p.scenarios ends
    → IsLowerEnd p (dot (map (λ (c : Scenario). c.probability) p.scenarios) ends)
