-- The columns so far and those of the other parts are all.
use Rattle.std.proofs.Common.{◌≡◌, ◌++◌, ◌+◌, length}
use Rattle.std.specs.Vec.Iter.{into_iter_items}
use Rattle.core_defs.specs.Filed.{nothing_filed}
use Rattle.core_defs.specs.Finished.{column_defs}
use Rattle.mps_core.proofs.whole.column_defs.Given as goal

abbrev pub invariant-loop-part : goal.invariant-loop-part
invariant-loop-part l =
    (goal.iterator-loop-part).can_next l.part-iterator ×
    (goal.iterator-loop-part).is_finite l.part-iterator ×
    (l.columns.items ++ column_defs (record nothing_filed { names = l.names; bounds = l.bounds.items }) (length l.columns.items) (into_iter_items l.part-iterator)
    ≡ column_defs (record nothing_filed { names = l.names; bounds = l.bounds.items }) 0 l.fn.parts.items) ×
    (length l.columns.items + length (into_iter_items l.part-iterator) ≡ length l.fn.parts.items)
