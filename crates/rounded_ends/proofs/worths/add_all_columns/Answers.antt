use Rattle.std.proofs.Common.{sym, subst, ◌∙◌}
use Rattle.rationals.specs.Rational.{ℚ}
use Rattle.scen_defs.specs.Program.{content, view_of}
use Rattle.scen_model.specs.Gathered.{lists_in, column_number}
use Rattle.rounded_ends.specs.Runs.{Ran, column_good, column_worth, columns_good, columns_worth}
use Rattle.rounded_ends.proofs.PlaceLemmas.{some_there, none_there, live_done}
use Rattle.rounded_ends.proofs.RunLemmas.{runs_next, runs_same, runs_done}
use Rattle.rounded_ends.proofs.worths.add_all_columns.Goals as goal
use Rattle.rounded_ends.proofs.worths.add_all_columns.Goals.{then-is_some+in-Some, else-is_some}

pub loop-place-preserved : goal.loop-place-preserved
loop-place-preserved c =
    let v = view_of (content c.args.program.now) in
    let d = column_number (lists_in c.args.numbers.now) c.args.seats.now in
    let i = c.loop-place.place in
    elim c.if-is_some.branch [
      | then-is_some+in-Some w ↦
          let ran = subst (λ (z : ℚ). Ran c.args.side (column_good v (d i)) (column_worth v (d i)) c.loop-place.sum (v.columns (v.stage i)) z) (sym w.sum-is) w.in-Some.ensures in
          runs_next c.args.side (columns_good v d) (columns_worth v d) c.args.start v.live c.loop-place.sum c.if-is_some.sum _ _ i
          (some_there _ _ c.deref-slot-items.ensures.value i c.slot-item.result c.loop-place-test.true c.slot-item.is (sym c.is_some.ensures ∙ w.if-is_some.true)) c.loop-place.invariant ran.holds ran.beside
      | else-is_some w ↦
          runs_same c.args.side (columns_good v d) (columns_worth v d) c.args.start v.live c.loop-place.sum c.if-is_some.sum _ _ (sym w.sum-is)
          (none_there _ _ c.deref-slot-items.ensures.value i c.slot-item.result c.loop-place-test.true c.slot-item.is (sym c.is_some.ensures ∙ w.if-is_some.false)) c.loop-place.invariant
    ]

pub returns : goal.returns
returns c =
    let v = view_of (content c.args.program.now) in
    let d = column_number (lists_in c.args.numbers.now) c.args.seats.now in
    runs_done c.args.side (columns_good v d) (columns_worth v d) c.args.start v.live c.loop-place.sum _
    (live_done _ _ c.deref-slot-items.ensures.value c.loop-place.place c.loop-place-test.false) c.loop-place.invariant
