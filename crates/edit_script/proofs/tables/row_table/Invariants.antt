-- The names so far, and those that are left, are all names.
use Rattle.std.proofs.Common.{◌≡◌, ◌++◌, drop}
use Rattle.scen_defs.specs.Names.{row_names}
use Rattle.edit_script.proofs.tables.row_table.Given as goal

abbrev pub invariant-loop-row : goal.invariant-loop-row
invariant-loop-row l = l.names ++ row_names (drop l.row-index l.rows) ≡ row_names l.rows
