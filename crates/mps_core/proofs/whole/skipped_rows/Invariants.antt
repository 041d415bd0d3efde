-- The names so far and those from here on are all but the first.
use Rattle.std.proofs.Common.{◌≡◌, ◌++◌, drop}
use Rattle.mps_core.proofs.whole.skipped_rows.Given as goal

abbrev pub invariant-loop-row : goal.invariant-loop-row
invariant-loop-row l = l.skipped.items ++ drop l.row l.free ≡ drop 1 l.free
