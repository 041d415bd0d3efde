use Rattle.std.proofs.Common.{◌≡◌, ◌<◌, ◌^◌, arith, ap, length, map, ◌∙◌}
use Rattle.scen_defs.specs.Program.{nodes_content}
use Rattle.scen_tree.specs.Trees.{position_of, children_from}
use Rattle.scen_tree.proofs.ChildLemmas.{positions_length}
use Rattle.node_data.specs.Frames.{parent_of, stage_of}
use Rattle.node_data.proofs.FrameLemmas.{nodes_length, same_frame}
use Rattle.node_data.proofs.frame.Frame.of.Goals as goal

pub children_of-requires : goal.children_of-requires
children_of-requires c =
    let nodes = c.args.program.now.nodes.items in
    let long : length (nodes_content nodes) ≡ length nodes = nodes_length nodes in
    let same = ap length (c.deref-3.ensures.value ∙ c.in_ok-positions.ensures) ∙ positions_length c.deref-2.result.now ∙ ap length c.deref-2.ensures.value in
    omega (arith, c.args.program.now.keeps.small.nodes, long, same)

pub returns : goal.returns
returns c =
    let positions = c.deref-3.ensures.value ∙ c.in_ok-positions.ensures ∙ ap (λ ns. map position_of (nodes_content ns)) c.deref-2.ensures.value in
    same_frame
    (c.in_ok-parents.ensures ∙ ap (λ ns. map parent_of (nodes_content ns)) c.deref.ensures.value)
    (c.in_ok-children.ensures ∙ ap (λ ps. children_from ps 0 ps) positions)
    (c.in_ok-stages.ensures ∙ ap (λ ns. map stage_of (nodes_content ns)) c.deref-4.ensures.value)
    (c.in_ok-columns.ensures c.args.program.now.keeps.small.columns)
