use Rattle.std.proofs.Common.{◌≡◌, drop}
use Rattle.rationals.specs.Sparse.{coefficient}
use Rattle.scen_defs.specs.Walks.{less_from}
use Rattle.cut_sums.proofs.sums.less_rows.Given as goal

abbrev pub invariant-loop-row : goal.invariant-loop-row
invariant-loop-row l = less_from l.column (coefficient l.multipliers) l.rest (drop l.row-index l.rows) ≡ less_from l.column (coefficient l.multipliers) l.fn.start l.rows
