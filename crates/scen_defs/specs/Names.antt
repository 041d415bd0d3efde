-- The names of the columns and of the rows of a program.
use Rattle.std.specs.Prelude.{ℕ, List, map}
use Rattle.scen_defs.specs.declared.program.Column.{Column}
use Rattle.scen_defs.specs.declared.program.Row.{Row}

-- the names of the columns, in their order
abbrev pub column_names : List Column → List (List ℕ)
column_names columns = map (λ (c : Column). c.name) columns

-- the names of the rows, in their order
abbrev pub row_names : List Row → List (List ℕ)
row_names rows = map (λ (r : Row). r.name) rows
