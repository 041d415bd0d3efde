use Rattle.std.proofs.Common.{◌≡◌, drop}
use Rattle.scen_defs.specs.Values.{at}
use Rattle.scen_defs.specs.Walks.{less_from}
use Rattle.scen_model.proofs.duals.less_rows.Given as goal

abbrev pub invariant-loop-row : goal.invariant-loop-row
invariant-loop-row l = less_from l.column (at l.values l.node) l.rest (drop l.row-index l.rows) ≡ less_from l.column (at l.values l.node) l.fn.start l.rows
