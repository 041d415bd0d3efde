use Rattle.std.proofs.Common.{◌≡◌, drop}
use Rattle.cut_sums.specs.Walks.{rows_worth}
use Rattle.cut_sums.proofs.sums.add_rows.Given as goal

abbrev pub invariant-loop-row : goal.invariant-loop-row
invariant-loop-row l = rows_worth l.multipliers l.worth (drop l.row-index l.rows) ≡ rows_worth l.multipliers l.fn.start l.rows
