-- A node more.
use Rattle.std.proofs.Common.{◌≡◌, ◌∙◌, ◌+◌, ◌++◌, ◌∷◌, [], ℕ, List, Option, Some, ap, sym, suc, get_or, drop, drop-cons, append_assoc, arith}
use Rattle.scen_defs.specs.Program.{Node, node_at, node_content, place_content, nodes_content}
use Rattle.scen_defs.specs.declared.program.Node.{Node as NodeOf}
use Rattle.scen_defs.proofs.Contents.{nodes_push}
use Rattle.value_programs.specs.Line.{stage_before}
use Rattle.value_programs.specs.OneScenario.{path_nodes}
use Rattle.value_programs.proofs.one_scenario.nodes_along.Goals as goal

pub loop-number-preserved : goal.loop-number-preserved
loop-number-preserved c =
    let nodes : List (Option Node) = nodes_content c.args.nodes.now in
    let k : ℕ = c.loop-number.number-index in
    let all : List (Option NodeOf) = c.loop-number.all.items in
    let rest : List ℕ = drop (k + 1) c.args.path.now in
    let node : NodeOf = c.in_ok-node.node in
    let stage : c.loop-number.stage ≡ k = c.loop-number.invariant.0 in
    let made : node_content node ≡ record (node_at nodes (get_or c.args.path.now k 0)) { parent = stage_before k } =
    c.in_ok-node.ensures ∙ ap (λ above. let w : Node = record (node_at nodes (get_or c.args.path.now k 0)) { parent = above } in w) (c.stage_before.ensures ∙ ap stage_before stage) in
    let one : suc k ≡ k + 1 = omega arith in
    let next : path_nodes nodes k (drop k c.args.path.now) ≡ Some (record (node_at nodes (get_or c.args.path.now k 0)) { parent = stage_before k }) ∷ path_nodes nodes (k + 1) rest =
    ap (path_nodes nodes k) (drop-cons c.args.path.now k 0 c.loop-number-test.true)
    ∙ ap (λ m. (let w : Node = record (node_at nodes (get_or c.args.path.now k 0)) { parent = stage_before k } in Some w) ∷ path_nodes nodes m (drop m c.args.path.now)) one in (
      omega (arith, stage),
      ap (λ (l : List (Option NodeOf)). nodes_content l ++ path_nodes nodes (k + 1) rest) c.in_ok-push.ensures.items
          ∙ ap (λ (l : List (Option Node)). l ++ path_nodes nodes (k + 1) rest) (nodes_push all (Some node))
          ∙ append_assoc (nodes_content all) (place_content (Some node) ∷ []) (path_nodes nodes (k + 1) rest)
          ∙ ap (λ (n : Node). nodes_content all ++ Some n ∷ path_nodes nodes (k + 1) rest) made
          ∙ ap (λ (l : List (Option Node)). nodes_content all ++ l) (sym next)
          ∙ c.loop-number.invariant.1,
    )
