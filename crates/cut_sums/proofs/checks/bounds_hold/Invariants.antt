use Rattle.std.proofs.Common.{◌≡◌, drop}
use Rattle.cut_sums.specs.Checks.{bounds_hold}
use Rattle.cut_sums.proofs.checks.bounds_hold.Given as goal

abbrev pub invariant-loop-column : goal.invariant-loop-column
invariant-loop-column l = bounds_hold l.next (drop l.column-index l.bounds) ≡ bounds_hold 0 l.bounds
