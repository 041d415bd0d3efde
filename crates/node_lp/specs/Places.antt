-- Forms over own rows, and over own columns.
use Rattle.std.specs.Prelude.{◌≡◌, true, List, map}
use Rattle.rationals.specs.Sparse.{Entry}
use Rattle.rationals.specs.Forms.{IsForm}
use Rattle.scen_defs.specs.Lists.{Each, is_in}
use Rattle.scen_defs.specs.declared.program.NodeRow.{NodeRow}
use Rattle.cut_defs.specs.Data.{is_own}
use Rattle.cut_defs.specs.declared.datum.ColumnBounds.{ColumnBounds}

-- each number is that of a row
abbrev pub OfRows : List NodeRow → List Entry → Type 0
OfRows rows y = Each (λ (e : Entry). is_in e.column (map (λ (r : NodeRow). r.row) rows) ≡ true) y

-- values of own columns that aren't 0, in rising order
pub record OfColumns (bs : List ColumnBounds) (x : List Entry) : Type 0 where
  pub form : IsForm x
  pub own : Each (λ (e : Entry). is_own bs e.column ≡ true) x
