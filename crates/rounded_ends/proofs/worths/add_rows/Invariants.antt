use Rattle.std.proofs.Common.{drop}
use Rattle.scen_defs.specs.Values.{at}
use Rattle.rounded_ends.specs.Runs.{Runs, row_good, row_worth}
use Rattle.rounded_ends.proofs.worths.add_rows.Given as goal

abbrev pub invariant-loop-row : goal.invariant-loop-row
invariant-loop-row l = let y = at l.values l.node in Runs l.side (row_good y) (row_worth y) l.fn.start l.rows l.sum (drop l.row-index l.rows)
