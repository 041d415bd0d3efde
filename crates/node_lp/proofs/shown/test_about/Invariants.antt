use Rattle.std.proofs.Common.{drop}
use Rattle.scen_defs.specs.Lists.{Each}
use Rattle.node_lp.specs.Tests.{IsCutAbout}
use Rattle.node_lp.proofs.shown.test_about.Given as goal

abbrev pub invariant-loop-cut : goal.invariant-loop-cut
invariant-loop-cut l = Each (IsCutAbout l.node) (drop l.cut-index l.cuts) → Each (IsCutAbout l.node) l.cuts
