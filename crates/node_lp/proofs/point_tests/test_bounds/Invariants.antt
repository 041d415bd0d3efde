use Rattle.std.proofs.Common.{drop}
use Rattle.scen_defs.specs.Lists.{Each}
use Rattle.node_lp.specs.Tests.{MeetsBounds}
use Rattle.node_lp.proofs.point_tests.test_bounds.Given as goal

abbrev pub invariant-loop-bound : goal.invariant-loop-bound
invariant-loop-bound l = Each (MeetsBounds l.point) (drop l.bound-index l.bounds) → Each (MeetsBounds l.point) l.bounds
