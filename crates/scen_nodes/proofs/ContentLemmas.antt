-- Copies of nodes and scenarios grow at their end.
use Rattle.std.proofs.Common.{◌≡◌, ℕ, ◌+◌, ◌<◌, List, [], ◌∷◌, ◌++◌, Option, length, drop, get_or, map, refl, sym, ap, ◌∙◌, append_assoc}
use Rattle.scen_defs.specs.declared.program.Node.{Node as NodeOf}
use Rattle.scen_defs.specs.declared.program.Scenario.{Scenario as ScenarioOf}
use Rattle.scen_defs.specs.Program.{Node, place_content, nodes_content, scenario_content, scenarios_content}
use Rattle.scen_defs.proofs.Contents.{nodes_push, scenarios_push}
use Rattle.scen_defs.proofs.NodeReads.{drop_read}

pub nodes_kept : (f : Option Node → Option Node) (all more nodes : List (Option NodeOf)) (x y : Option NodeOf) (i : ℕ) (whole : List (Option Node))
    → more ≡ all ++ x ∷ [] → i < length nodes → y ≡ get_or nodes i y → place_content x ≡ f (place_content y)
    → nodes_content all ++ map f (nodes_content (drop i nodes)) ≡ whole → nodes_content more ++ map f (nodes_content (drop (i + 1) nodes)) ≡ whole
nodes_kept f all more nodes x y i whole m h e p kept =
    ap (λ l. nodes_content l ++ map f (nodes_content (drop (i + 1) nodes))) m
    ∙ ap (λ l. l ++ map f (nodes_content (drop (i + 1) nodes))) (nodes_push all x)
    ∙ append_assoc (nodes_content all) (place_content x ∷ []) (map f (nodes_content (drop (i + 1) nodes)))
    ∙ ap (λ q. nodes_content all ++ q ∷ map f (nodes_content (drop (i + 1) nodes))) p
    ∙ ap (λ l. nodes_content all ++ map f (nodes_content l)) (sym (drop_read nodes i y h e)) ∙ kept

pub scenarios_kept : (all more scenarios : List ScenarioOf) (x y : ScenarioOf) (i : ℕ) → more ≡ all ++ x ∷ [] → i < length scenarios → y ≡ get_or scenarios i y → scenario_content x ≡ scenario_content y
    → scenarios_content all ++ scenarios_content (drop i scenarios) ≡ scenarios_content scenarios → scenarios_content more ++ scenarios_content (drop (i + 1) scenarios) ≡ scenarios_content scenarios
scenarios_kept all more scenarios x y i m h e p kept =
    ap (λ l. scenarios_content l ++ scenarios_content (drop (i + 1) scenarios)) m
    ∙ ap (λ l. l ++ scenarios_content (drop (i + 1) scenarios)) (scenarios_push all x)
    ∙ append_assoc (scenarios_content all) (scenario_content x ∷ []) (scenarios_content (drop (i + 1) scenarios))
    ∙ ap (λ q. scenarios_content all ++ q ∷ scenarios_content (drop (i + 1) scenarios)) p
    ∙ ap (λ l. scenarios_content all ++ scenarios_content l) (sym (drop_read scenarios i y h e)) ∙ kept
