use Rattle.std.proofs.Common.{drop}
use Rattle.scen_defs.specs.Lists.{Each}
use Rattle.interval_form.specs.Rows.{HasForm}
use Rattle.node_lp.proofs.fitting.keep_row_orders.Given as goal

abbrev pub invariant-loop-row : goal.invariant-loop-row
invariant-loop-row l = Each HasForm (drop l.row-index l.rows) → Each HasForm l.rows
