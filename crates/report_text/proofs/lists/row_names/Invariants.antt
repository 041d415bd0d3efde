use Rattle.std.proofs.Common.{◌≡◌, ◌++◌, map, drop}
use Rattle.scen_defs.specs.Names.{row_names}
use Rattle.report_text.proofs.lists.row_names.Given as goal

abbrev pub invariant-loop-row : goal.invariant-loop-row
invariant-loop-row l = map (λ name. name.now) l.names.items ++ map (λ row. row.name) (drop l.row-index l.program.rows.items) ≡ row_names l.program.rows.items
