use Rattle.std.proofs.Common.{◌≡◌, drop}
use Rattle.scen_defs.specs.Program.{content, view_of}
use Rattle.flat_write.specs.Operations.{each_walk, prices}
use Rattle.flat_write.proofs.operations.prices.Given as goal

abbrev pub invariant-loop-node : goal.invariant-loop-node
invariant-loop-node l =
    each_walk (prices (view_of (content l.program))) (drop l.node-index l.live) ≡ each_walk (prices (view_of (content l.program))) l.live
