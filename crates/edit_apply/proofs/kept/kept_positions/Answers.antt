-- A node more, and none left.
use Rattle.std.proofs.Common.{◌≡◌, ◌∙◌, ◌++◌, List, None, ap, sym, subst, map, append-nil, drop_of_length-le}
use Rattle.rationals.specs.Choices.{pick}
use Rattle.scen_defs.specs.Program.{place_content, nodes_content}
use Rattle.scen_tree.specs.declared.position.Position.{Position}
use Rattle.scen_tree.specs.Trees.{position_of}
use Rattle.edit_apply.specs.Kept.{kept_from}
use Rattle.edit_apply.proofs.Marks.{next_position}
use Rattle.edit_apply.proofs.kept.kept_positions.Goals as goal

pub loop-node-preserved : goal.loop-node-preserved
loop-node-preserved c =
    let place = c.index-nodes-node.result in
    next_position c.args.marks.now c.loop-node.all.items _ c.args.nodes.now c.loop-node.node place c.kept_position.result _ c.loop-node-test.true c.index-nodes-node.is
    (c.kept_position.ensures ∙ ap (λ is_marked. position_of (pick is_marked (place_content place) None)) c.is_marked.ensures) c.in_ok-push.ensures.items c.loop-node.invariant

pub returns : goal.returns
returns c =
    let marks = c.args.marks.now in
    let nodes = c.args.nodes.now in
    let all : List Position = c.loop-node.all.items in
    sym (append-nil all)
    ∙ subst (λ left. all ++ map position_of (kept_from marks c.loop-node.node (nodes_content left)) ≡ map position_of (kept_from marks 0 (nodes_content nodes))) (drop_of_length-le nodes c.loop-node-test.false) c.loop-node.invariant
