use Rattle.std.proofs.Common.{drop}
use Rattle.std.proofs.lemmas.List.{drop_all}
use Rattle.cut_proof.specs.View.{uses_content}
use Rattle.node_lp.proofs.UseLemmas.{use_next, use_ends}
use Rattle.node_lp.proofs.cutting.used.Goals as goal

pub loop-cut-preserved : goal.loop-cut-preserved
loop-cut-preserved c =
    use_next (uses_content c.loop-cut.used.items) (uses_content c.push_used.new.used.items) c.loop-cut.left.now c.split.result.1.now c.first.result c.args.cuts.now c.loop-cut.cut-index c.cut-item.result _
    c.loop-cut-test.true c.cut-item.is c.first.ensures c.split.ensures.back c.in_ok-push_used.ensures c.loop-cut.invariant

pub returns : goal.returns
returns c =
    use_ends (uses_content c.loop-cut.used.items) c.loop-cut.left.now (drop c.loop-cut.cut-index c.args.cuts.now) _ (drop_all c.loop-cut.cut-index c.args.cuts.now c.loop-cut-test.false) c.loop-cut.invariant
