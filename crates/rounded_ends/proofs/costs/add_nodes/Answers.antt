use Rattle.std.proofs.Common.{ℕ, sym, subst, slice_index_or}
use Rattle.rationals.specs.Rational.{ℚ, zero_ℚ, ◌+ℚ◌, ◌*ℚ◌}
use Rattle.scen_defs.specs.Program.{content, view_of}
use Rattle.scen_defs.specs.Values.{at}
use Rattle.scen_defs.specs.Flat.{node_cost}
use Rattle.scen_model.proofs.NodeSteps.{live_there, dead_there}
use Rattle.rounded_sums.specs.Sides.{Beside}
use Rattle.rounded_ends.proofs.PlaceLemmas.{live_done}
use Rattle.rounded_ends.proofs.RunLemmas.{Free, runs_next, runs_same, runs_done, ran_sum, cost_there}
use Rattle.rounded_ends.proofs.costs.add_nodes.Goals as goal
use Rattle.rounded_ends.proofs.costs.add_nodes.Goals.{in-Some+in-Some-add_node, in_default}

pub loop-place-preserved : goal.loop-place-preserved
loop-place-preserved c =
    let v = view_of (content c.args.program.now) in
    let g : ℕ → ℚ = λ n. slice_index_or c.args.totals.now n zero_ℚ *ℚ node_cost v (at c.args.values.now) n in
    elim c.match-slot.branch [
      | in-Some+in-Some-add_node w ↦
          runs_next c.args.side Free g zero_ℚ v.live c.loop-place.sum c.match-slot.sum _ _ c.loop-place.place
          (live_there _ _ c.deref-slot-items.ensures.value c.loop-place.place c.slot-item.result w.in-Some.node c.loop-place-test.true c.slot-item.is w.in-Some.is) c.loop-place.invariant tt
          (subst (λ (z : ℚ). Beside c.args.side (c.loop-place.sum +ℚ g c.loop-place.place) z) (sym w.sum-is)
          (subst (λ (z : ℚ). Beside c.args.side z w.in-Some-add_node.next)
          (cost_there c.args.program.now _ c.deref-slot-items.ensures.value c.loop-place.place c.slot-item.result w.in-Some.node c.loop-place-test.true c.slot-item.is w.in-Some.is
          _ _ w.number_at-total.ensures _ w.terms-costs.ensures (at c.args.values.now c.loop-place.place) c.loop-place.sum) w.in-Some-add_node.ensures))
      | in_default w ↦
          runs_same c.args.side Free g zero_ℚ v.live c.loop-place.sum c.match-slot.sum _ _ (sym w.sum-is)
          (dead_there _ _ c.deref-slot-items.ensures.value c.loop-place.place c.slot-item.result c.loop-place-test.true c.slot-item.is w.in_default.is) c.loop-place.invariant
    ]

pub returns : goal.returns
returns c =
    let v = view_of (content c.args.program.now) in
    let g : ℕ → ℚ = λ n. slice_index_or c.args.totals.now n zero_ℚ *ℚ node_cost v (at c.args.values.now) n in
    ran_sum c.args.side Free g v.live c.loop-place.sum
    (runs_done c.args.side Free g zero_ℚ v.live c.loop-place.sum _ (live_done _ _ c.deref-slot-items.ensures.value c.loop-place.place c.loop-place-test.false) c.loop-place.invariant)
