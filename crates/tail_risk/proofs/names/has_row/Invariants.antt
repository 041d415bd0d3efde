use Rattle.std.proofs.Common.{◌≡◌, drop}
use Rattle.scen_defs.specs.Names.{row_names}
use Rattle.tail_risk.specs.TailNames.{has_name}
use Rattle.tail_risk.proofs.names.has_row.Given as goal

abbrev pub invariant-loop-row : goal.invariant-loop-row
invariant-loop-row l = has_name l.name (row_names (drop l.row-index l.rows)) ≡ has_name l.name (row_names l.rows)
