use Rattle.std.proofs.Common.{◌≡◌, ◌++◌, drop, map}
use Rattle.scen_nodes.specs.Derived.{derived_column}
use Rattle.scen_nodes.proofs.derived.columns.Given as goal

abbrev pub invariant-loop-column : goal.invariant-loop-column
invariant-loop-column l = l.all.items ++ map (derived_column l.kind) (drop l.column-index l.columns) ≡ map (derived_column l.kind) l.columns
