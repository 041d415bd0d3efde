use Rattle.node_lp.proofs.PointTests.{joined_is}
use Rattle.node_lp.proofs.point_tests.join.Goals as goal

pub returns-in-Ok : goal.returns-in-Ok
returns-in-Ok c = joined_is c.args.point.now c.args.trial.now c.in-Ok.at c.one.result c.one.ensures c.in-Ok.ensures
