-- The scenarios with other probabilities, operation by operation.
use Rattle.std.specs.Prelude.{ℕ, List, [], ◌∷◌, ◌++◌, Option, Some, None, Result, Ok}
use Rattle.rationals.specs.Rational.{ℚ, one_ℚ}
use Rattle.rationals.specs.Passes.{Operation, sub_walk, mul_walk, div_walk, then_walk, then_value}
use Rattle.rationals.specs.Choices.{pick}
use Rattle.scen_defs.specs.Program.{Scenario}
use Rattle.scen_tree.specs.declared.position.Position.{Position}
use Rattle.scen_tree.specs.Chances.{chances_walk}
use Rattle.edit_defs.specs.After.{is_named, scenario_named}
use Rattle.edit_chances.specs.declared.scaled.Scale.{Scale}
use Rattle.edit_chances.specs.declared.scaled.Scale.TheVariants.{Times, Over}

-- ---- scenario by scenario
abbrev pub scaled_walk : Scale → ℚ → Result ℚ Operation
scaled_walk (Times factor) q = mul_walk q factor
scaled_walk (Over rest) q = div_walk q rest

abbrev pub with_chance : Scenario → ℚ → Scenario
with_chance s q = record s { probability = q }

-- the named scenario has a probability of its own, or goes where there is none
abbrev pub own_part : Option ℚ → Scenario → List Scenario
own_part None s = []
own_part (Some q) s = with_chance s q ∷ []

-- behind the scenarios that are made another one, whose probability is scaled
abbrev pub scaled_part : Scale → Scenario → List Scenario → Result (List Scenario) Operation
scaled_part scale s made = then_value (λ q. made ++ with_chance s q ∷ []) (scaled_walk scale s.probability)

-- behind them that scenario, or another one
abbrev pub with_part : List ℕ → Option ℚ → Scale → Scenario → List Scenario → Result (List Scenario) Operation
with_part name own scale s made = pick (is_named name s) (Ok (made ++ own_part own s)) (scaled_part scale s made)

-- behind them all scenarios
abbrev pub rescaled_from : List ℕ → Option ℚ → Scale → List Scenario → List Scenario → Result (List Scenario) Operation
rescaled_from name own scale made [] = Ok made
rescaled_from name own scale made (s ∷ ss) =
    then_walk (with_part name own scale s made) (λ more. rescaled_from name own scale more ss)

-- ---- the scenarios after an edit
abbrev pub rest_walk : List ℕ → List Scenario → Result ℚ Operation
rest_walk name ss = sub_walk one_ℚ (scenario_named name ss).probability

abbrev pub prob_walk : List Scenario → List ℕ → ℚ → Result (List Scenario) Operation
prob_walk ss name q =
    then_walk (sub_walk one_ℚ q) (λ left. then_walk (rest_walk name ss) (λ rest.
    then_walk (div_walk left rest) (λ factor. rescaled_from name (Some q) (Times factor) [] ss)))

abbrev pub drop_walk : List Scenario → List ℕ → Result (List Scenario) Operation
drop_walk ss name = then_walk (rest_walk name ss) (λ rest. rescaled_from name None (Over rest) [] ss)

-- behind them the new scenario
abbrev pub add_walk_from : List Scenario → Scenario → Result (List Scenario) Operation
add_walk_from ss new = then_value (λ all. all ++ new ∷ [])
    (then_walk (sub_walk one_ℚ new.probability) (λ left. rescaled_from new.name None (Times left) [] ss))

-- the scenarios, where no operation of the tree passes
abbrev pub tested_walk : List Position → List Scenario → Result (List Scenario) Operation
tested_walk positions ss = then_walk (chances_walk positions ss) (λ _. Ok ss)
