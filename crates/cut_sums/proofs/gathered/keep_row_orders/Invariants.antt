use Rattle.std.proofs.Common.{drop}
use Rattle.cut_sums.specs.Tallies.{RowsAscend}
use Rattle.cut_sums.proofs.gathered.keep_row_orders.Given as goal

abbrev pub invariant-loop-row : goal.invariant-loop-row
invariant-loop-row l = RowsAscend (drop l.row-index l.rows) → RowsAscend l.rows
