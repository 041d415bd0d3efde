use Rattle.std.proofs.Common.{drop}
use Rattle.scen_defs.specs.Lists.{Each}
use Rattle.node_lp.specs.Problem.{taken}
use Rattle.node_lp.specs.Tests.{MeetsCut}
use Rattle.node_lp.proofs.point_tests.test_children.Given as goal

abbrev pub invariant-loop-place : goal.invariant-loop-place
invariant-loop-place l = Each (MeetsCut l.at l.costs) (taken l.priced l.place (drop l.place l.children)) → Each (MeetsCut l.at l.costs) (taken l.priced 0 l.children)
