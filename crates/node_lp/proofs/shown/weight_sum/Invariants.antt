use Rattle.std.proofs.Common.{◌≡◌, drop}
use Rattle.rationals.specs.Rational.{◌+ℚ◌}
use Rattle.node_lp.specs.Tests.{stored_weight}
use Rattle.node_lp.proofs.shown.weight_sum.Given as goal

abbrev pub invariant-loop-cut : goal.invariant-loop-cut
invariant-loop-cut l = l.sum +ℚ stored_weight l.node (drop l.cut-index l.cuts) l.left ≡ stored_weight l.node l.cuts l.weights
