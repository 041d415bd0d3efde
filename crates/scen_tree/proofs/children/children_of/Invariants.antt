use Rattle.std.proofs.Common.{◌≡◌, drop}
use Rattle.scen_tree.specs.Trees.{lists, children_from}
use Rattle.scen_tree.proofs.ChildLemmas.{finished}
use Rattle.scen_tree.proofs.children.children_of.Given as goal

abbrev pub invariant-loop-node : goal.invariant-loop-node
invariant-loop-node l = finished (drop l.node l.positions) l.node 0 (lists l.all.items) ≡ children_from l.positions 0 l.positions
