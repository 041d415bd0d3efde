use Rattle.node_lp.proofs.PointTests.{cost_here, cost_past}
use Rattle.node_lp.proofs.point_tests.child_cost.Goals as goal

pub returns-then-place-costs : goal.returns-then-place-costs
returns-then-place-costs c = cost_here c.args.costs.now c.args.place c.index-costs-place.result c.if-place-costs.true c.index-costs-place.is

pub returns-else-place-costs : goal.returns-else-place-costs
returns-else-place-costs c = cost_past c.args.costs.now c.args.place c.zero.result c.zero.ensures c.if-place-costs.false
