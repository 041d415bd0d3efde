-- The nodes so far and the others are all.
use Rattle.std.proofs.Common.{◌≡◌, []}
use Rattle.std.specs.Vec.Iter.{into_iter_items}
use Rattle.scen_defs.specs.Program.{nodes_content}
use Rattle.tree_build.specs.Values.{all_content}
use Rattle.tree_build.specs.Finish.{value_nodes}
use Rattle.tree_build.proofs.finish.nodes.Given as goal

abbrev pub invariant-loop-found : goal.invariant-loop-found
invariant-loop-found l =
    (goal.iterator-loop-found).can_next l.found-iterator ×
    (goal.iterator-loop-found).is_finite l.found-iterator ×
    (value_nodes l.defs l.debuts l.positions (nodes_content l.nodes.items) (all_content (into_iter_items l.found-iterator)) ≡ value_nodes l.defs l.debuts l.positions [] (all_content l.fn.values.items))
