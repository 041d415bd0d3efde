use Rattle.std.proofs.Common.{drop, sym}
use Rattle.std.proofs.lemmas.List.{drop_all}
use Rattle.node_lp.proofs.PointTests.{shared_step, shared_ends}
use Rattle.node_lp.proofs.point_tests.shared_cost.Goals as goal

pub loop-share-preserved : goal.loop-share-preserved
loop-share-preserved c =
    shared_step c.loop-share.sum c.in_ok-sum.sum _ c.first.result c.args.shares.now c.loop-share.share-index c.share-item.result c.loop-share.left.now c.split.result.1.now
    c.loop-share-test.true c.share-item.is c.first.ensures c.split.ensures.back (sym c.in_ok-sum.ensures) c.loop-share.invariant

pub returns : goal.returns
returns c =
    shared_ends c.loop-share.sum c.args.start _ (drop c.loop-share.share-index c.args.shares.now) c.loop-share.left.now
    (drop_all c.loop-share.share-index c.args.shares.now c.loop-share-test.false) c.loop-share.invariant
