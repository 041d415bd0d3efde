use Rattle.scen_nodes.proofs.ContentLemmas.{scenarios_kept}
use Rattle.scen_nodes.proofs.derived.scenarios.Goals as goal

pub loop-found-preserved : goal.loop-found-preserved
loop-found-preserved c = scenarios_kept c.loop-found.all.items _ c.args.scenarios.now c.in_ok-copy.copy c.found-item.result _ c.in_ok-push.ensures.items c.loop-found-test.true c.found-item.is c.in_ok-copy.ensures c.loop-found.invariant
