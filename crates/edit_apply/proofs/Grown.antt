-- Lists that grow at their end, and paths that are copied.
use Rattle.std.proofs.Common.{◌≡◌, ℕ, suc, List, [], ◌∷◌, ◌++◌, length, Option, Some, Result, Ok, Err, IfOk, refl, sym, ap, ◌∙◌}
use Rattle.scen_defs.specs.declared.program.Node.{Node as NodeOf}
use Rattle.scen_defs.specs.declared.program.Scenario.{Scenario as ScenarioOf}
use Rattle.scen_defs.specs.Program.{Node, node_at, node_content, place_content, nodes_content, scenario_content, scenarios_content}
use Rattle.edit_defs.specs.After.{copy}

-- the copy of a node that is read
pub copied_from : (nodes : List (Option Node)) (above : Option ℕ) (n : ℕ) (x : Node) (y : NodeOf) → node_at nodes n ≡ x → node_content y ≡ record x { parent = above } → copy nodes above n ≡ Some (node_content y)
copied_from nodes above n x y e h = ap (λ (z : Node). Some (let w : Node = record z { parent = above } in w)) e ∙ ap (λ (z : Node). let a : Option Node = Some z in a) (sym h)

pub copied_ok : {E : Type 0} (r : Result NodeOf E) (nodes : List (Option Node)) (above : Option ℕ) (n : ℕ) (x : Node) → node_at nodes n ≡ x → IfOk r (λ y. node_content y ≡ record x { parent = above }) → IfOk r (λ y. copy nodes above n ≡ Some (node_content y))
copied_ok (Ok y) nodes above n x e h = copied_from nodes above n x y e h
copied_ok (Err f) nodes above n x e h = tt
