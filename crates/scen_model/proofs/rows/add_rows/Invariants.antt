use Rattle.std.proofs.Common.{◌≡◌, drop}
use Rattle.scen_defs.specs.Values.{at}
use Rattle.scen_model.specs.Walks.{rows_from}
use Rattle.scen_model.proofs.rows.add_rows.Given as goal

abbrev pub invariant-loop-row : goal.invariant-loop-row
invariant-loop-row l = rows_from (at l.values l.node) l.sum (drop l.row-index l.rows) ≡ rows_from (at l.values l.node) l.fn.start l.rows
