use Rattle.std.proofs.Common.{◌≤◌, length}
use Rattle.edit_defs.proofs.look.place_before.Given as goal

abbrev pub invariant-loop-left : goal.invariant-loop-left
invariant-loop-left l = l.left ≤ length l.scenarios

abbrev pub decreases-loop-left : goal.decreases-loop-left
decreases-loop-left l = l.left
