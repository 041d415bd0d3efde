use Rattle.std.proofs.Common.{◌≡◌, ◌+◌, drop, sum_by}
use Rattle.edit_defs.specs.Limits.{row_entries}
use Rattle.tail_risk.proofs.size.entries_of.Given as goal

abbrev pub invariant-loop-row : goal.invariant-loop-row
invariant-loop-row l = l.count + sum_by row_entries (drop l.row-index l.rows) ≡ sum_by row_entries l.rows
