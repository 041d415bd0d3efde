-- The data of a node in a run.
use Rattle.std.specs.Prelude.{ℕ, map, slice_index_or}
use Rattle.rationals.specs.Rational.{zero_ℚ, one_ℚ, neg_ℚ}
use Rattle.scen_defs.specs.declared.report.Kind.{Kind}
use Rattle.scen_defs.specs.Program.{Program, node_at}
use Rattle.scen_nodes.specs.Derived.{derived_cost, derived_row, derived_bound}
use Rattle.scen_tree.specs.Trees.{Tree}
use Rattle.cut_defs.specs.declared.datum.ColumnBounds.{ColumnBounds}
use Rattle.cut_defs.specs.declared.datum.Share.{Share}
use Rattle.cut_defs.specs.Data.{Datum}
use Rattle.node_data.specs.Frames.{Frame, children_in, columns_in}

-- a column's bounds in a run of this kind
abbrev pub derived_bounds : Kind → ColumnBounds → ColumnBounds
derived_bounds kind b = record {
  column = b.column;
  lower = derived_bound kind (neg_ℚ one_ℚ) b.lower;
  upper = derived_bound kind one_ℚ b.upper;
}

-- a child with its share; past the tree's last node the share is 0
abbrev pub share_in : Tree → ℕ → Share
share_in tree m = record { child = m; share = slice_index_or tree.chances.shares m zero_ℚ }

-- the datum of node n with these versions in a run of this kind: costs and rows by the program, bounds by the frame, and
-- the children of the frame with their shares in the tree
abbrev pub node_datum : Kind → Program → Frame → Tree → ℕ → ℕ → ℕ → Datum
node_datum kind p frame tree n rows_version costs_version = record {
  node = n;
  rows_version = rows_version;
  costs_version = costs_version;
  cost = derived_cost kind (node_at p.nodes n).cost;
  rows = map (derived_row kind) (node_at p.nodes n).rows;
  bounds = map (derived_bounds kind) (columns_in frame n);
  shares = map (share_in tree) (children_in frame n);
}
