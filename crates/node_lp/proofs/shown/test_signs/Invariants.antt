use Rattle.std.proofs.Common.{drop}
use Rattle.lp_defs.specs.Program.{NoneNegative}
use Rattle.node_lp.proofs.shown.test_signs.Given as goal

abbrev pub invariant-loop-weight : goal.invariant-loop-weight
invariant-loop-weight l = NoneNegative (drop l.weight-index l.weights) → NoneNegative l.weights
