use Rattle.std.proofs.Common.{drop}
use Rattle.node_lp.specs.Tests.{StoredAlone}
use Rattle.node_lp.proofs.shown.test_alone.Given as goal

abbrev pub invariant-loop-cut : goal.invariant-loop-cut
invariant-loop-cut l = StoredAlone (drop l.cut-index l.cuts) l.left → StoredAlone l.cuts l.weights
