use Rattle.std.proofs.Common.{ℕ, subst, ◌∙◌}
use Rattle.scen_defs.specs.Program.{content, view_of}
use Rattle.scen_defs.specs.Values.{at}
use Rattle.scen_defs.specs.Flat.{along}
use Rattle.scen_defs.specs.Lists.{Each}
use Rattle.scen_model.proofs.NodeSteps.{live_there, dead_there, rows_read}
use Rattle.rounded_ends.specs.Met.{RowsMet}
use Rattle.rounded_ends.proofs.PlaceLemmas.{each_next, each_past}
use Rattle.rounded_ends.proofs.meets.are_all_rows_met.Goals as goal
use Rattle.rounded_ends.proofs.meets.are_all_rows_met.Goals.{in-Some+else-not-are_rows_met, in_default}

pub loop-place-preserved : goal.loop-place-preserved
loop-place-preserved c =
    let v = view_of (content c.args.program.now) in
    let P : ℕ → Type 0 = λ n. RowsMet (along v (at c.args.values.now) n) (v.rows n) in
    elim c.match-slot.branch [
      | in-Some+else-not-are_rows_met w ↦
          let rows_are = w.deref.ensures.value ∙ rows_read c.args.program.now _ c.deref-slot-items.ensures.value c.loop-place.place c.slot-item.result w.in-Some.node c.loop-place-test.true c.slot-item.is w.in-Some.is in
          each_next P (Each P v.live) _ _ c.loop-place.place
          (live_there _ _ c.deref-slot-items.ensures.value c.loop-place.place c.slot-item.result w.in-Some.node c.loop-place-test.true c.slot-item.is w.in-Some.is) c.loop-place.invariant
          (subst (RowsMet (along v (at c.args.values.now) c.loop-place.place)) rows_are (w.are_rows_met.ensures w.if-not-are_rows_met.false))
      | in_default w ↦
          each_past P (Each P v.live) _ _
          (dead_there _ _ c.deref-slot-items.ensures.value c.loop-place.place c.slot-item.result c.loop-place-test.true c.slot-item.is w.in_default.is) c.loop-place.invariant
    ]
