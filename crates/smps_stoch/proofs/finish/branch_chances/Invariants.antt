-- The probabilities so far.
use Rattle.std.proofs.Common.{◌≡◌, ◌++◌, drop, map}
use Rattle.stoch_defs.specs.Finish.{stated_branch}
use Rattle.smps_stoch.proofs.finish.branch_chances.Given as goal

abbrev pub invariant-loop-head : goal.invariant-loop-head
invariant-loop-head l = l.chances.items ++ map stated_branch (drop l.head-index l.heads) ≡ map stated_branch l.heads
