-- The rows so far and the others are all.
use Rattle.std.proofs.Common.{◌≡◌, []}
use Rattle.std.specs.Vec.Iter.{into_iter_items}
use Rattle.tree_build.specs.Finish.{value_rows}
use Rattle.tree_build.proofs.rows.node_rows.Given as goal

abbrev pub invariant-loop-row : goal.invariant-loop-row
invariant-loop-row l =
    (goal.iterator-loop-row).can_next l.row-iterator ×
    (goal.iterator-loop-row).is_finite l.row-iterator ×
    (value_rows l.defs l.all.items (into_iter_items l.row-iterator) ≡ value_rows l.defs [] l.fn.rows.items)
