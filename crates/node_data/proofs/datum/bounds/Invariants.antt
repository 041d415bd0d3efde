use Rattle.std.proofs.Common.{◌≡◌, ◌++◌, drop, map}
use Rattle.node_data.specs.NodeData.{derived_bounds}
use Rattle.node_data.proofs.datum.bounds.Given as goal

abbrev pub invariant-loop-column : goal.invariant-loop-column
invariant-loop-column l = l.all.items ++ map (derived_bounds l.kind) (drop l.column-index l.columns) ≡ map (derived_bounds l.kind) l.columns
