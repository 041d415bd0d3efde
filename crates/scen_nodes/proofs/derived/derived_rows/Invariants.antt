use Rattle.std.proofs.Common.{◌≡◌, ◌++◌, drop, map}
use Rattle.scen_nodes.specs.Derived.{derived_row}
use Rattle.scen_nodes.proofs.derived.derived_rows.Given as goal

abbrev pub invariant-loop-row : goal.invariant-loop-row
invariant-loop-row l = l.all.items ++ map (derived_row l.kind) (drop l.row-index l.rows) ≡ map (derived_row l.kind) l.rows
