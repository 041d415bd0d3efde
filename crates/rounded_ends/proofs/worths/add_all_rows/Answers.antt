use Rattle.std.proofs.Common.{sym, subst, ◌∙◌, List}
use Rattle.rationals.specs.Rational.{ℚ, zero_ℚ}
use Rattle.scen_defs.specs.Program.{content, view_of}
use Rattle.scen_defs.specs.Values.{at}
use Rattle.scen_defs.specs.declared.program.NodeRow.{NodeRow}
use Rattle.scen_model.proofs.NodeSteps.{live_there, dead_there, rows_read}
use Rattle.rounded_ends.specs.Runs.{Ran, row_good, row_worth, rows_good, rows_worth}
use Rattle.rounded_ends.proofs.PlaceLemmas.{live_done}
use Rattle.rounded_ends.proofs.RunLemmas.{runs_next, runs_same, runs_done}
use Rattle.rounded_ends.proofs.worths.add_all_rows.Goals as goal
use Rattle.rounded_ends.proofs.worths.add_all_rows.Goals.{in-Some+in-Some-add_rows, in_default}

pub loop-place-preserved : goal.loop-place-preserved
loop-place-preserved c =
    let v = view_of (content c.args.program.now) in
    let y = at c.args.values.now in
    elim c.match-slot.branch [
      | in-Some+in-Some-add_rows w ↦
          let rows_are = w.deref.ensures.value ∙ rows_read c.args.program.now _ c.deref-slot-items.ensures.value c.loop-place.place c.slot-item.result w.in-Some.node c.loop-place-test.true c.slot-item.is w.in-Some.is in
          let ran = subst (λ (z : ℚ). Ran c.args.side (row_good (y c.loop-place.place)) (row_worth (y c.loop-place.place)) c.loop-place.sum (v.rows c.loop-place.place) z) (sym w.sum-is)
          (subst (λ (l : List NodeRow). Ran c.args.side (row_good (y c.loop-place.place)) (row_worth (y c.loop-place.place)) c.loop-place.sum l w.in-Some-add_rows.next) rows_are w.in-Some-add_rows.ensures) in
          runs_next c.args.side (rows_good v y) (rows_worth v y) zero_ℚ v.live c.loop-place.sum c.match-slot.sum _ _ c.loop-place.place
          (live_there _ _ c.deref-slot-items.ensures.value c.loop-place.place c.slot-item.result w.in-Some.node c.loop-place-test.true c.slot-item.is w.in-Some.is) c.loop-place.invariant ran.holds ran.beside
      | in_default w ↦
          runs_same c.args.side (rows_good v y) (rows_worth v y) zero_ℚ v.live c.loop-place.sum c.match-slot.sum _ _ (sym w.sum-is)
          (dead_there _ _ c.deref-slot-items.ensures.value c.loop-place.place c.slot-item.result c.loop-place-test.true c.slot-item.is w.in_default.is) c.loop-place.invariant
    ]

pub returns : goal.returns
returns c =
    let v = view_of (content c.args.program.now) in
    let y = at c.args.values.now in
    runs_done c.args.side (rows_good v y) (rows_worth v y) zero_ℚ v.live c.loop-place.sum _ (live_done _ _ c.deref-slot-items.ensures.value c.loop-place.place c.loop-place-test.false) c.loop-place.invariant
