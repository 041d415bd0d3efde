use Rattle.std.proofs.Common.{drop, ap, ◌∙◌}
use Rattle.std.proofs.lemmas.List.{drop_all}
use Rattle.rationals.specs.Rational.{◌+ℚ◌, zero_add_ℚ}
use Rattle.node_lp.specs.Tests.{stored_weight}
use Rattle.node_lp.proofs.ShownLemmas.{weight_step, weight_ends}
use Rattle.node_lp.proofs.shown.weight_sum.Goals as goal

pub loop-cut-init : goal.loop-cut-init
loop-cut-init c =
    ap (λ q. q +ℚ stored_weight c.args.node c.args.cuts.now c.args.weights.now) c.zero-sum.ensures ∙ zero_add_ℚ (stored_weight c.args.node c.args.cuts.now c.args.weights.now)

pub loop-cut-preserved : goal.loop-cut-preserved
loop-cut-preserved c =
    weight_step c.args.node c.loop-cut.sum c.in_ok-sum.sum _ c.first.result c.args.cuts.now c.loop-cut.cut-index c.cut-item.result c.cut.result.now c.loop-cut.left.now c.split.result.1.now
    c.loop-cut-test.true c.cut-item.is c.cut.ensures c.first.ensures c.split.ensures.back c.in_ok-sum.ensures c.loop-cut.invariant

pub returns : goal.returns
returns c =
    weight_ends c.args.node c.loop-cut.sum _ (drop c.loop-cut.cut-index c.args.cuts.now) c.loop-cut.left.now (drop_all c.loop-cut.cut-index c.args.cuts.now c.loop-cut-test.false) c.loop-cut.invariant
