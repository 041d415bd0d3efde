-- A node more, and none left.
use Rattle.std.proofs.Common.{◌≡◌, ◌∙◌, ap, sym, subst, None, drop_of_length-le}
use Rattle.rationals.specs.Choices.{pick}
use Rattle.scen_defs.specs.Program.{place_content, nodes_content}
use Rattle.edit_defs.specs.Limits.{plus, counts, place_counts}
use Rattle.edit_apply.specs.Kept.{kept_from}
use Rattle.edit_apply.proofs.Counting.{plus_none}
use Rattle.edit_apply.proofs.Marks.{next_kept_counts}
use Rattle.edit_apply.proofs.kept.kept_counts.Goals as goal

pub loop-node-preserved : goal.loop-node-preserved
loop-node-preserved c =
    let place = c.index-nodes-node.result in
    next_kept_counts c.args.marks.now c.loop-node.all _ c.in_ok-here.here c.args.nodes.now c.loop-node.node place _ c.loop-node-test.true c.index-nodes-node.is
    (c.in_ok-here.ensures ∙ ap (λ is_marked. place_counts (pick is_marked (place_content place) None)) c.is_marked.ensures) c.in_ok-all.ensures c.loop-node.invariant

pub returns : goal.returns
returns c =
    let marks = c.args.marks.now in
    let nodes = c.args.nodes.now in
    let all = c.loop-node.all in
    sym (plus_none all)
    ∙ subst (λ left. plus all (counts (kept_from marks c.loop-node.node (nodes_content left))) ≡ counts (kept_from marks 0 (nodes_content nodes))) (drop_of_length-le nodes c.loop-node-test.false) c.loop-node.invariant
