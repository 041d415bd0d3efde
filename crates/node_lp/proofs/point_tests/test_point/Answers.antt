use Rattle.cut_sums.proofs.TallyLaws.{on_ok}
use Rattle.scen_defs.specs.Lists.{Each}
use Rattle.node_lp.specs.Problem.{taken}
use Rattle.node_lp.specs.Tests.{MeetsCut}
use Rattle.node_lp.proofs.PointTests.{point_met}
use Rattle.node_lp.proofs.point_tests.test_point.Goals as goal

pub returns : goal.returns
returns c = on_ok c.test_children.result
    (λ (k : Each (MeetsCut c.in_ok-at.at c.args.costs.now) (taken c.is_priced.result 0 c.deref.result.now)).
    point_met c.args.task.now c.args.point.now c.in_ok-at.at c.args.costs.now c.is_priced.result c.rows.result.now c.bounds.result.now c.deref.result.now
    c.is_priced.ensures c.rows.ensures c.bounds.ensures.bounds c.deref.ensures.value c.in_ok-at.ensures c.in_ok-test_rows.ensures c.in_ok-test_bounds.ensures k) c.test_children.ensures
