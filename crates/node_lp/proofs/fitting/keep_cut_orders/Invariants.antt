use Rattle.std.proofs.Common.{drop}
use Rattle.scen_defs.specs.Lists.{Each}
use Rattle.node_lp.specs.Fits.{HasCutForm}
use Rattle.node_lp.proofs.fitting.keep_cut_orders.Given as goal

abbrev pub invariant-loop-cut : goal.invariant-loop-cut
invariant-loop-cut l = Each HasCutForm (drop l.cut-index l.cuts) → Each HasCutForm l.cuts
