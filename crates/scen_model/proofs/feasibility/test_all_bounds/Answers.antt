use Rattle.std.proofs.Common.{sym, ◌∙◌}
use Rattle.scen_model.proofs.NodeSteps.{next_some, next_none}
use Rattle.scen_model.proofs.feasibility.test_all_bounds.Goals as goal
use Rattle.scen_model.proofs.feasibility.test_all_bounds.Goals.{then-is_some+in_ok-test_bounds, else-is_some}

pub loop-place-preserved : goal.loop-place-preserved
loop-place-preserved c = elim c.if-is_some.branch [
  | then-is_some+in_ok-test_bounds w ↦
      next_some _ _ _ _ c.deref-slot-items.ensures.value _ _ c.loop-place.invariant c.slot-item.result tt c.loop-place-test.true c.slot-item.is (sym c.is_some.ensures ∙ w.if-is_some.true) (sym w.in_ok-test_bounds.was ∙ w.test_bounds.ensures)
  | else-is_some w ↦
      next_none _ _ _ _ c.deref-slot-items.ensures.value _ _ c.loop-place.invariant c.slot-item.result c.loop-place-test.true c.slot-item.is (sym c.is_some.ensures ∙ w.if-is_some.false)
]
