-- A node more, and none left.
use Rattle.std.proofs.Common.{◌≡◌, ◌∙◌, sym, subst, drop_of_length-le}
use Rattle.scen_defs.specs.Program.{nodes_content}
use Rattle.edit_defs.specs.Limits.{plus, counts}
use Rattle.edit_apply.proofs.Counting.{next_counts, plus_none}
use Rattle.edit_apply.proofs.counts.count.Goals as goal

pub loop-place-preserved : goal.loop-place-preserved
loop-place-preserved c =
    next_counts c.loop-place.all _ c.in_ok-here.here c.args.nodes.now c.loop-place.place-index c.place-item.result _ c.loop-place-test.true c.place-item.is c.in_ok-here.ensures c.in_ok-all.ensures c.loop-place.invariant

pub returns : goal.returns
returns c =
    let nodes = c.args.nodes.now in
    let all = c.loop-place.all in
    sym (plus_none all)
    ∙ subst (λ left. plus all (counts (nodes_content left)) ≡ counts (nodes_content nodes)) (drop_of_length-le nodes c.loop-place-test.false) c.loop-place.invariant
