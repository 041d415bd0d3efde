-- What lists of nodes and of scenarios hold, when one more is pushed and when lists are joined.
use Rattle.std.proofs.Common.{◌≡◌, ℕ, suc, List, [], ◌∷◌, ◌++◌, length, Option, refl, ap}
use Rattle.scen_defs.specs.declared.program.Node.{Node as NodeOf}
use Rattle.scen_defs.specs.declared.program.Scenario.{Scenario as ScenarioOf}
use Rattle.scen_defs.specs.Program.{place_content, nodes_content, scenario_content, scenarios_content}

pub nodes_push : (all : List (Option NodeOf)) (n : Option NodeOf) → nodes_content (all ++ n ∷ []) ≡ nodes_content all ++ place_content n ∷ []
nodes_push [] n = refl
nodes_push (first ∷ all) n = ap (λ rest. place_content first ∷ rest) (nodes_push all n)

pub nodes_append : (all more : List (Option NodeOf)) → nodes_content (all ++ more) ≡ nodes_content all ++ nodes_content more
nodes_append [] more = refl
nodes_append (first ∷ all) more = ap (λ rest. place_content first ∷ rest) (nodes_append all more)

pub nodes_length : (all : List (Option NodeOf)) → length (nodes_content all) ≡ length all
nodes_length [] = refl
nodes_length (n ∷ all) = ap suc (nodes_length all)

pub scenarios_push : (all : List ScenarioOf) (s : ScenarioOf) → scenarios_content (all ++ s ∷ []) ≡ scenarios_content all ++ scenario_content s ∷ []
scenarios_push [] s = refl
scenarios_push (first ∷ all) s = ap (λ rest. scenario_content first ∷ rest) (scenarios_push all s)

pub scenarios_length : (all : List ScenarioOf) → length (scenarios_content all) ≡ length all
scenarios_length [] = refl
scenarios_length (s ∷ all) = ap suc (scenarios_length all)
