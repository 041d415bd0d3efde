use Rattle.std.proofs.Common.{◌≡◌, drop}
use Rattle.edit_retire.specs.Dues.{rows_version}
use Rattle.edit_retire.proofs.swept.rows_version.Given as goal

abbrev pub invariant-loop-touch : goal.invariant-loop-touch
invariant-loop-touch l = rows_version (drop l.touch-index l.touches) ≡ rows_version l.touches
