use Rattle.std.proofs.Common.{◌≡◌, ◌++◌, drop, map}
use Rattle.scen_defs.specs.Program.{nodes_content}
use Rattle.scen_tree.specs.Trees.{position_of}
use Rattle.edit_apply.specs.Kept.{kept_from}
use Rattle.edit_apply.proofs.kept.kept_positions.Given as goal

abbrev pub invariant-loop-node : goal.invariant-loop-node
invariant-loop-node l =
    l.all.items ++ map position_of (kept_from l.marks l.node (nodes_content (drop l.node l.nodes))) ≡ map position_of (kept_from l.marks 0 (nodes_content l.nodes))
