use Rattle.std.proofs.Common.{◌≡◌, ◌++◌, drop}
use Rattle.pass_core.specs.Made.{cuts_there}
use Rattle.pass_core.proofs.ground.shared.Given as goal

abbrev pub invariant-loop-node : goal.invariant-loop-node
invariant-loop-node l = l.all.items ++ cuts_there l.cuts (drop l.node-index l.nodes) ≡ cuts_there l.cuts l.nodes
