use Rattle.std.proofs.Common.{◌≡◌, ◌+◌, drop}
use Rattle.std.specs.List.{sum_by}
use Rattle.edit_defs.specs.Limits.{row_entries}
use Rattle.flat_write.proofs.limits.room_behind.Given as goal

abbrev pub invariant-loop-row : goal.invariant-loop-row
invariant-loop-row l =
    l.room + sum_by row_entries (drop l.row-index l.rows) ≡ l.left + sum_by row_entries l.rows
