use Rattle.std.proofs.Common.{◌≡◌, drop}
use Rattle.scen_defs.specs.Program.{nodes_content}
use Rattle.edit_defs.specs.Limits.{counts, plus}
use Rattle.edit_apply.specs.Kept.{kept_from}
use Rattle.edit_apply.proofs.kept.kept_counts.Given as goal

abbrev pub invariant-loop-node : goal.invariant-loop-node
invariant-loop-node l =
    plus l.all (counts (kept_from l.marks l.node (nodes_content (drop l.node l.nodes)))) ≡ counts (kept_from l.marks 0 (nodes_content l.nodes))
