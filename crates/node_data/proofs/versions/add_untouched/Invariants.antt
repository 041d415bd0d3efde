use Rattle.std.proofs.Common.{◌≡◌, ◌++◌, replicate}
use Rattle.node_data.specs.Counts.{untouched}
use Rattle.node_data.proofs.versions.add_untouched.Given as goal

abbrev pub invariant-loop-node : goal.invariant-loop-node
invariant-loop-node l = l.nodes.items ≡ l.initial.nodes.items ++ replicate l._node untouched
