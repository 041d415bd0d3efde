use Rattle.std.proofs.Common.{◌≡◌, drop}
use Rattle.scen_defs.specs.Names.{column_names}
use Rattle.tail_risk.specs.TailNames.{has_name}
use Rattle.tail_risk.proofs.names.has_column.Given as goal

abbrev pub invariant-loop-column : goal.invariant-loop-column
invariant-loop-column l = has_name l.name (column_names (drop l.column-index l.columns)) ≡ has_name l.name (column_names l.columns)
