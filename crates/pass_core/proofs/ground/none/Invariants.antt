use Rattle.std.proofs.Common.{◌≡◌, None, replicate}
use Rattle.pass_core.proofs.ground.none.Given as goal

abbrev pub invariant-loop-node : goal.invariant-loop-node
invariant-loop-node l = l.cuts.items ≡ replicate l._node None
