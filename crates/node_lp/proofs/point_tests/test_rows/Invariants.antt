use Rattle.std.proofs.Common.{drop}
use Rattle.scen_defs.specs.Lists.{Each}
use Rattle.node_lp.specs.Tests.{MeetsRow}
use Rattle.node_lp.proofs.point_tests.test_rows.Given as goal

abbrev pub invariant-loop-row : goal.invariant-loop-row
invariant-loop-row l = Each (MeetsRow l.at) (drop l.row-index l.rows) → Each (MeetsRow l.at) l.rows
