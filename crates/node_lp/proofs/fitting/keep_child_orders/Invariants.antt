use Rattle.std.proofs.Common.{drop}
use Rattle.scen_defs.specs.Lists.{Each}
use Rattle.node_lp.specs.Fits.{HaveCutForms}
use Rattle.node_lp.proofs.fitting.keep_child_orders.Given as goal

abbrev pub invariant-loop-child : goal.invariant-loop-child
invariant-loop-child l = Each HaveCutForms (drop l.child-index l.children) → Each HaveCutForms l.children
