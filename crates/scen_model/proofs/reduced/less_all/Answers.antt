use Rattle.std.proofs.Common.{◌+◌, ℕ, List, Vec, refl, sym, subst, ◌∙◌}
use Rattle.std.specs.declared.alloc.Global.{Global}
use Rattle.rationals.specs.Rational.{ℚ}
use Rattle.scen_defs.specs.Program.{content, view_of}
use Rattle.scen_defs.specs.Values.{at}
use Rattle.scen_defs.specs.Walks.{less_from}
use Rattle.scen_model.specs.Walks.{fold_walk, less_step}
use Rattle.scen_model.specs.Gathered.{lists_in, if_home, AllMove}
use Rattle.scen_model.proofs.NodeSteps.{live_from, live_there, dead_there, rows_read}
use Rattle.scen_model.proofs.Homes.{AllSame, all_next, node_moves}
use Rattle.scen_model.proofs.reduced.less_all.Goals as goal
use Rattle.scen_model.proofs.reduced.less_all.Goals.{in-Some+in_ok-less_rows, in_default}

pub loop-place-preserved : goal.loop-place-preserved
loop-place-preserved c =
    let p = c.args.program.now in
    let v = view_of (content p) in
    let y = at c.args.values.now in
    let place = c.loop-place.place in
    let rest = live_from (place + 1) p.nodes.items in
    elim c.match-slot.branch [
      | in-Some+in_ok-less_rows w ↦
          all_next v p.columns.items c.args.seats.now (λ k j s ns. fold_walk (less_step v y k j) s ns) (λ k j s. less_step v y k j s place) (lists_in c.loop-place.numbers) (lists_in c.match-slot.numbers) (lists_in c.args.numbers.now)
          place (live_from place p.nodes.items) rest v.live
          (live_there p.nodes.items _ c.deref-slot-items.ensures.value place c.slot-item.result w.in-Some.node c.loop-place-test.true c.slot-item.is w.in-Some.is)
          (λ k j s o. refl) c.loop-place.invariant
          (node_moves p c.args.seats.now y place w.deref.result.now (lists_in c.loop-place.numbers) (lists_in c.match-slot.numbers)
          (w.deref.ensures.value ∙ rows_read p _ c.deref-slot-items.ensures.value place c.slot-item.result w.in-Some.node c.loop-place-test.true c.slot-item.is w.in-Some.is)
          (subst (λ (numbers : List (Vec ℚ Global)). AllMove v p.columns.items c.args.seats.now (λ k j s. if_home v place k j s (less_from j (y place) s w.deref.result.now)) (lists_in c.loop-place.numbers) (lists_in numbers)) (sym w.numbers-is)
          w.in_ok-less_rows.ensures))
      | in_default w ↦
          subst (λ (ns : List ℕ). AllSame v p.columns.items c.args.seats.now (λ k j s ns. fold_walk (less_step v y k j) s ns) (lists_in c.match-slot.numbers) ns (lists_in c.args.numbers.now) v.live)
          (dead_there p.nodes.items _ c.deref-slot-items.ensures.value place c.slot-item.result c.loop-place-test.true c.slot-item.is w.in_default.is)
          (subst (λ (numbers : List (Vec ℚ Global)). AllSame v p.columns.items c.args.seats.now (λ k j s ns. fold_walk (less_step v y k j) s ns) (lists_in numbers) (live_from place p.nodes.items) (lists_in c.args.numbers.now) v.live) (sym w.numbers-is)
          c.loop-place.invariant)
    ]
