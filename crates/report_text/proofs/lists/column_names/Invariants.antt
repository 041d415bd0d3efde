use Rattle.std.proofs.Common.{◌≡◌, ◌++◌, map, drop}
use Rattle.scen_defs.specs.Names.{column_names}
use Rattle.report_text.proofs.lists.column_names.Given as goal

abbrev pub invariant-loop-column : goal.invariant-loop-column
invariant-loop-column l = map (λ name. name.now) l.names.items ++ map (λ column. column.name) (drop l.column-index l.program.columns.items) ≡ column_names l.program.columns.items
