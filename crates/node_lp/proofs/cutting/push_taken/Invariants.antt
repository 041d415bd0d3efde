use Rattle.std.proofs.Common.{◌≡◌, ◌++◌, drop}
use Rattle.node_lp.specs.Told.{stored_of}
use Rattle.node_lp.proofs.cutting.push_taken.Given as goal

abbrev pub invariant-loop-cut : goal.invariant-loop-cut
invariant-loop-cut l = l.all.items ++ stored_of l.priced (drop l.cut-index l.cuts) ≡ l.fn.all.items ++ stored_of l.priced l.cuts
