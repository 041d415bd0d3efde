-- The data of a node in the code as a datum.
use Rattle.std.specs.Prelude.{ℕ, List}
use Rattle.rationals.specs.Sparse.{Entry}
use Rattle.scen_defs.specs.declared.program.NodeRow.{NodeRow}
use Rattle.cut_defs.specs.declared.datum.ColumnBounds.{ColumnBounds}
use Rattle.cut_defs.specs.declared.datum.Share.{Share}
use Rattle.cut_defs.specs.Data.{Datum}
use Rattle.cut_sums.specs.declared.datum.NodeDatum.TheInside.{Inside}

-- the datum of these parts
abbrev pub datum_with : ℕ → ℕ → ℕ → List Entry → List NodeRow → List ColumnBounds → List Share → Datum
datum_with node rows_version costs_version cost rows bounds shares = record {
  node = node;
  rows_version = rows_version;
  costs_version = costs_version;
  cost = cost;
  rows = rows;
  bounds = bounds;
  shares = shares;
}

abbrev pub datum_content : Inside → Datum
datum_content d = datum_with d.node d.rows_version d.costs_version d.cost d.rows.items d.bounds.items d.shares.items
