use Rattle.std.proofs.Common.{◌≡◌, ◌++◌, drop}
use Rattle.node_lp.specs.Told.{stored_cuts}
use Rattle.node_lp.proofs.cutting.taken_cuts.Given as goal

abbrev pub invariant-loop-child : goal.invariant-loop-child
invariant-loop-child l = l.all.items ++ stored_cuts l.priced (drop l.child-index l.children) ≡ stored_cuts l.priced l.children
