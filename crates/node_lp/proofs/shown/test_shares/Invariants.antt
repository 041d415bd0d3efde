use Rattle.std.proofs.Common.{drop}
use Rattle.node_lp.specs.Tests.{HaveShares}
use Rattle.node_lp.proofs.shown.test_shares.Given as goal

abbrev pub invariant-loop-place : goal.invariant-loop-place
invariant-loop-place l = HaveShares (drop l.place l.shares) (drop l.place l.children) l.left → HaveShares l.shares l.children l.weights
