use Rattle.std.proofs.Common.{sym, ap, ◌∙◌}
use Rattle.std.proofs.lemmas.Result.{err_from_is_err_and}
use Rattle.scen_defs.specs.Program.{content, view_of}
use Rattle.scen_defs.specs.Flat.{along}
use Rattle.scen_defs.specs.Values.{at}
use Rattle.scen_model.specs.Walks.{end_of, rows_test}
use Rattle.scen_model.proofs.NodeSteps.{next_live, stop_live, next_dead, rows_read}
use Rattle.scen_model.proofs.feasibility.test_all_rows.Goals as goal
use Rattle.scen_model.proofs.feasibility.test_all_rows.Goals.{in-Some+in_ok-test_rows, in_default}

pub returns-in_err-test_rows : goal.returns-in_err-test_rows
returns-in_err-test_rows c =
    let p = err_from_is_err_and c.from_residual.result c.from_residual.ensures.1 in
    rw (p.1, p.2) (stop_live _ _ _ _ c.deref-slot-items.ensures.value _ _ c.loop-place.invariant c.slot-item.result c.in-Some.node _ c.loop-place-test.true c.slot-item.is c.in-Some.is
    (sym c.in_err-test_rows.was ∙ c.test_rows.ensures ∙ ap (λ r. rows_test (end_of c.args.ends) (along (view_of (content c.args.program.now)) (at c.args.values.now) c.loop-place.place) r) (c.deref.ensures.value ∙ rows_read c.args.program.now _ c.deref-slot-items.ensures.value _ c.slot-item.result c.in-Some.node c.loop-place-test.true c.slot-item.is c.in-Some.is)))

pub loop-place-preserved : goal.loop-place-preserved
loop-place-preserved c = elim c.match-slot.branch [
  | in-Some+in_ok-test_rows w ↦
      next_live _ _ _ _ c.deref-slot-items.ensures.value _ _ c.loop-place.invariant c.slot-item.result w.in-Some.node tt c.loop-place-test.true c.slot-item.is w.in-Some.is
      (sym w.in_ok-test_rows.was ∙ w.test_rows.ensures ∙ ap (λ r. rows_test (end_of c.args.ends) (along (view_of (content c.args.program.now)) (at c.args.values.now) c.loop-place.place) r) (w.deref.ensures.value ∙ rows_read c.args.program.now _ c.deref-slot-items.ensures.value _ c.slot-item.result w.in-Some.node c.loop-place-test.true c.slot-item.is w.in-Some.is))
  | in_default w ↦
      next_dead _ _ _ _ c.deref-slot-items.ensures.value _ _ c.loop-place.invariant c.slot-item.result c.loop-place-test.true c.slot-item.is w.in_default.is
]
