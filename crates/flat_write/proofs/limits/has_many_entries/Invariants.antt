use Rattle.std.proofs.Common.{◌≡◌, ◌+◌, drop}
use Rattle.std.specs.List.{sum_by}
use Rattle.scen_defs.specs.Program.{content, view_of}
use Rattle.flat_write.specs.Sizes.{flat_entries}
use Rattle.flat_write.proofs.limits.has_many_entries.Given as goal

abbrev pub invariant-loop-node : goal.invariant-loop-node
invariant-loop-node l =
    l.most + sum_by (flat_entries (view_of (content l.program))) (drop l.node-index l.live) ≡ l.left + sum_by (flat_entries (view_of (content l.program))) l.live
