use Rattle.std.proofs.Common.{◌≡◌, drop}
use Rattle.simplex_core.specs.Dense.{less_rows}
use Rattle.simplex_core.proofs.costs.subtract_rows.Given as goal

abbrev pub invariant-loop-row : goal.invariant-loop-row
invariant-loop-row l = less_rows l.values (drop l.row-index l.rows) ≡ less_rows l.initial.values l.rows
