use Rattle.std.proofs.Common.{drop}
use Rattle.scen_defs.specs.Lists.{Each}
use Rattle.node_lp.specs.Tests.{IsKeptValue}
use Rattle.node_lp.proofs.point_tests.test_values.Given as goal

abbrev pub invariant-loop-term : goal.invariant-loop-term
invariant-loop-term l = Each (IsKeptValue l.bounds) (drop l.term-index l.terms) → Each (IsKeptValue l.bounds) l.terms
