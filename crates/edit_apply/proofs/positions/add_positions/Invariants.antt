use Rattle.std.proofs.Common.{◌≡◌, ◌++◌, drop, map}
use Rattle.scen_defs.specs.Program.{nodes_content}
use Rattle.scen_tree.specs.Trees.{position_of}
use Rattle.edit_apply.proofs.positions.add_positions.Given as goal

abbrev pub invariant-loop-place : goal.invariant-loop-place
invariant-loop-place l =
    l.all.items ++ map position_of (nodes_content (drop l.place-index l.nodes)) ≡ l.initial.all.items ++ map position_of (nodes_content l.nodes)
