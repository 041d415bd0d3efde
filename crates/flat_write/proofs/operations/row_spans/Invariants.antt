use Rattle.std.proofs.Common.{◌≡◌, drop}
use Rattle.scen_defs.specs.Program.{content, view_of}
use Rattle.flat_write.specs.Operations.{each_walk, row_spans}
use Rattle.flat_write.proofs.operations.row_spans.Given as goal

abbrev pub invariant-loop-node : goal.invariant-loop-node
invariant-loop-node l =
    each_walk (row_spans (view_of (content l.program))) (drop l.node-index l.live) ≡ each_walk (row_spans (view_of (content l.program))) l.live
