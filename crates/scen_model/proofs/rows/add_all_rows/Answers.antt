use Rattle.std.proofs.Common.{◌+◌, Ok, sym, ap, ◌∙◌}
use Rattle.std.proofs.lemmas.Result.{err_from_is_err_and}
use Rattle.scen_defs.specs.Program.{content, view_of}
use Rattle.scen_defs.specs.Values.{at}
use Rattle.scen_model.specs.Walks.{fold_walk, rows_from}
use Rattle.scen_model.proofs.NodeSteps.{live_from, next_live, stop_live, next_dead, rows_read}
use Rattle.scen_model.proofs.rows.add_all_rows.Goals as goal
use Rattle.scen_model.proofs.rows.add_all_rows.Goals.{in-Some+in_ok-sum, in_default}

pub returns-in_err-sum : goal.returns-in_err-sum
returns-in_err-sum c =
    let p = err_from_is_err_and c.from_residual.result c.from_residual.ensures.1 in
    rw (p.1, p.2) (stop_live _ _ _ _ c.deref-slot-items.ensures.value _ _ c.loop-place.invariant c.slot-item.result c.in-Some.node _ c.loop-place-test.true c.slot-item.is c.in-Some.is
    (sym c.in_err-sum.was ∙ c.add_rows.ensures ∙ ap (λ r. rows_from (at c.args.values.now c.loop-place.place) c.loop-place.sum r) (c.deref.ensures.value ∙ rows_read c.args.program.now _ c.deref-slot-items.ensures.value _ c.slot-item.result c.in-Some.node c.loop-place-test.true c.slot-item.is c.in-Some.is)))

pub loop-place-preserved : goal.loop-place-preserved
loop-place-preserved c = elim c.match-slot.branch [
  | in-Some+in_ok-sum w ↦
      next_live _ _ _ _ c.deref-slot-items.ensures.value _ _ c.loop-place.invariant c.slot-item.result w.in-Some.node c.match-slot.sum c.loop-place-test.true c.slot-item.is w.in-Some.is
      (ap Ok w.sum-is ∙ sym w.in_ok-sum.was ∙ w.add_rows.ensures ∙ ap (λ r. rows_from (at c.args.values.now c.loop-place.place) c.loop-place.sum r) (w.deref.ensures.value ∙ rows_read c.args.program.now _ c.deref-slot-items.ensures.value _ c.slot-item.result w.in-Some.node c.loop-place-test.true c.slot-item.is w.in-Some.is))
  | in_default w ↦
      ap (λ s. fold_walk (λ s n. rows_from (at c.args.values.now n) s ((view_of (content c.args.program.now)).rows n)) s (live_from (c.loop-place.place + 1) c.args.program.now.nodes.items)) w.sum-is
      ∙ next_dead _ _ _ _ c.deref-slot-items.ensures.value _ _ c.loop-place.invariant c.slot-item.result c.loop-place-test.true c.slot-item.is w.in_default.is
]
