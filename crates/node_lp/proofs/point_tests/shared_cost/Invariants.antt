use Rattle.std.proofs.Common.{◌≡◌, drop}
use Rattle.rationals.specs.Rational.{◌+ℚ◌}
use Rattle.node_lp.specs.Records.{shared_cost}
use Rattle.node_lp.proofs.point_tests.shared_cost.Given as goal

abbrev pub invariant-loop-share : goal.invariant-loop-share
invariant-loop-share l = l.sum +ℚ shared_cost (drop l.share-index l.shares) l.left ≡ l.fn.start +ℚ shared_cost l.shares l.costs
