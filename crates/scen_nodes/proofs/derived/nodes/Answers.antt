use Rattle.scen_nodes.proofs.ContentLemmas.{nodes_kept}
use Rattle.scen_nodes.specs.Derived.{derived_place}
use Rattle.scen_nodes.proofs.derived.nodes.Goals as goal

pub loop-slot-preserved : goal.loop-slot-preserved
loop-slot-preserved c = nodes_kept (derived_place c.args.kind) c.loop-slot.all.items _ c.args.nodes.now c.in_ok-copy.copy c.slot-item.result _ _ c.in_ok-push.ensures.items c.loop-slot-test.true c.slot-item.is c.in_ok-copy.ensures c.loop-slot.invariant
