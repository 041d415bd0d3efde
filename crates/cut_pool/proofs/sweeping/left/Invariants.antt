use Rattle.std.proofs.Common.{◌≡◌, ◌++◌, drop}
use Rattle.cut_pool.specs.Pool.{kept_of}
use Rattle.cut_pool.proofs.sweeping.left.Given as goal

abbrev pub invariant-loop-cut : goal.invariant-loop-cut
invariant-loop-cut l = l.left.items ++ kept_of l.touch l.shift (drop l.cut-index l.cuts) ≡ kept_of l.touch l.shift l.cuts
