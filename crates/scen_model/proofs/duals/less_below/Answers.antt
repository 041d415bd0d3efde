use Rattle.std.proofs.Common.{◌+◌, Ok, sym, ap, ◌∙◌}
use Rattle.std.proofs.lemmas.Result.{err_from_is_err_and}
use Rattle.rationals.specs.Choices.{pick}
use Rattle.scen_defs.specs.Program.{content, view_of}
use Rattle.scen_defs.specs.Flat.{is_above}
use Rattle.scen_defs.specs.Values.{at}
use Rattle.scen_defs.specs.Walks.{less_from}
use Rattle.scen_model.specs.Walks.{fold_walk, less_step}
use Rattle.scen_model.proofs.NodeSteps.{live_from, next_live, stop_live, next_dead, rows_read}
use Rattle.scen_model.proofs.duals.less_below.Goals as goal
use Rattle.scen_model.proofs.duals.less_below.Goals.{in-Some+in_ok-rest, in_default}

pub returns-in_err-rest : goal.returns-in_err-rest
returns-in_err-rest c =
    let p = err_from_is_err_and c.from_residual.result c.from_residual.ensures.1 in
    rw (p.1, p.2) (stop_live _ _ _ _ c.deref-slot-items.ensures.value _ _ c.loop-place.invariant c.slot-item.result c.in-Some.node _ c.loop-place-test.true c.slot-item.is c.in-Some.is
    (sym c.in_err-rest.was ∙ c.less_node.ensures ∙ ap (λ r. pick (is_above (view_of (content c.args.program.now)) c.args.top c.loop-place.place) (less_from c.args.column (at c.args.values.now c.loop-place.place) c.loop-place.rest r) (Ok c.loop-place.rest)) (c.deref.ensures.value ∙ rows_read c.args.program.now _ c.deref-slot-items.ensures.value _ c.slot-item.result c.in-Some.node c.loop-place-test.true c.slot-item.is c.in-Some.is)))

pub loop-place-preserved : goal.loop-place-preserved
loop-place-preserved c = elim c.match-slot.branch [
  | in-Some+in_ok-rest w ↦
      next_live _ _ _ _ c.deref-slot-items.ensures.value _ _ c.loop-place.invariant c.slot-item.result w.in-Some.node c.match-slot.rest c.loop-place-test.true c.slot-item.is w.in-Some.is
      (ap Ok w.rest-is ∙ sym w.in_ok-rest.was ∙ w.less_node.ensures ∙ ap (λ r. pick (is_above (view_of (content c.args.program.now)) c.args.top c.loop-place.place) (less_from c.args.column (at c.args.values.now c.loop-place.place) c.loop-place.rest r) (Ok c.loop-place.rest)) (w.deref.ensures.value ∙ rows_read c.args.program.now _ c.deref-slot-items.ensures.value _ c.slot-item.result w.in-Some.node c.loop-place-test.true c.slot-item.is w.in-Some.is))
  | in_default w ↦
      ap (λ s. fold_walk (less_step (view_of (content c.args.program.now)) (at c.args.values.now) c.args.top c.args.column) s (live_from (c.loop-place.place + 1) c.args.program.now.nodes.items)) w.rest-is
      ∙ next_dead _ _ _ _ c.deref-slot-items.ensures.value _ _ c.loop-place.invariant c.slot-item.result c.loop-place-test.true c.slot-item.is w.in_default.is
]
