use Rattle.scen_defs.specs.Program.{content}
use Rattle.tail_risk.proofs.Steps.{next_length}
use Rattle.tail_risk.proofs.size.path_count.Goals as goal

pub loop-up-preserved : goal.loop-up-preserved
loop-up-preserved c = next_length (content c.args.program.now).nodes _ c.loop-up._up c.loop-up.at c.parent-at.result c.loop-up.count c.in_ok-count.count c.cost_count.result _
    c.loop-up-test.true c.cost_count.ensures c.in_ok-count.ensures c.parent-at.ensures c.loop-up.invariant
