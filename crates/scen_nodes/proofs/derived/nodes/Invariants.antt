use Rattle.std.proofs.Common.{◌≡◌, ◌++◌, drop, map}
use Rattle.scen_defs.specs.Program.{nodes_content}
use Rattle.scen_nodes.specs.Derived.{derived_place}
use Rattle.scen_nodes.proofs.derived.nodes.Given as goal

abbrev pub invariant-loop-slot : goal.invariant-loop-slot
invariant-loop-slot l = nodes_content l.all.items ++ map (derived_place l.kind) (nodes_content (drop l.slot-index l.nodes)) ≡ map (derived_place l.kind) (nodes_content l.nodes)
