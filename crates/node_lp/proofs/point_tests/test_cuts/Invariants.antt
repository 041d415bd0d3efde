use Rattle.std.proofs.Common.{drop}
use Rattle.scen_defs.specs.Lists.{Each}
use Rattle.node_lp.specs.Problem.{taken_of}
use Rattle.node_lp.specs.Tests.{MeetsCut}
use Rattle.node_lp.proofs.point_tests.test_cuts.Given as goal

abbrev pub invariant-loop-cut : goal.invariant-loop-cut
invariant-loop-cut l = Each (MeetsCut l.at l.costs) (taken_of l.priced l.place (drop l.cut-index l.cuts)) → Each (MeetsCut l.at l.costs) (taken_of l.priced l.place l.cuts)
