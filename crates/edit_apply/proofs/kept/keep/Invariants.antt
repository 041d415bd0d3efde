use Rattle.std.proofs.Common.{◌≡◌}
use Rattle.scen_defs.specs.Program.{nodes_content}
use Rattle.edit_apply.specs.Kept.{kept_from}
use Rattle.edit_apply.proofs.Marks.{half_kept}
use Rattle.edit_apply.proofs.kept.keep.Given as goal

abbrev pub invariant-loop-node : goal.invariant-loop-node
invariant-loop-node l = half_kept l.marks 0 l.node l.nodes ≡ kept_from l.marks 0 (nodes_content l.initial.nodes)
