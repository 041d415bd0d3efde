-- The tables of a program's names.
use Rattle.std.specs.Prelude.{◌≡◌}
use Rattle.scen_defs.specs.Program.{Program}
use Rattle.scen_defs.specs.Names.{column_names, row_names}
use Rattle.edit_script.specs.declared.tables.Tables.{Tables}

-- the columns' and the rows' names by their numbers
pub record HasTables (p : Program) (tables : Tables) : Type 0 where
  pub columns : tables.columns ≡ column_names p.columns
  pub rows : tables.rows ≡ row_names p.rows
