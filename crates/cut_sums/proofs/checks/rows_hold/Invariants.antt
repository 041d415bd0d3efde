use Rattle.std.proofs.Common.{◌≡◌, drop}
use Rattle.cut_sums.specs.Checks.{rows_hold}
use Rattle.cut_sums.proofs.checks.rows_hold.Given as goal

abbrev pub invariant-loop-row : goal.invariant-loop-row
invariant-loop-row l = rows_hold l.next (drop l.row-index l.rows) ≡ rows_hold 0 l.rows
