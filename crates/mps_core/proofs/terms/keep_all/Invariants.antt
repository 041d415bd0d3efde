-- The terms that are left and those of the map are all.
use Rattle.std.proofs.Common.{◌≡◌}
use Rattle.std.specs.Vec.Iter.{into_iter_items}
use Rattle.mps_core.specs.Falling.{terms_in}
use Rattle.mps_core.proofs.terms.keep_all.Given as goal

abbrev pub invariant-loop-term : goal.invariant-loop-term
invariant-loop-term l =
    (goal.iterator-loop-term).can_next l.term-iterator ×
    (goal.iterator-loop-term).is_finite l.term-iterator ×
    (terms_in (into_iter_items l.term-iterator) l.values.entries ≡ terms_in l.fn.falling.items l.fn.values.entries)
