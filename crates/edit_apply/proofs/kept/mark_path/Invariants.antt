use Rattle.std.proofs.Common.{◌≡◌, drop}
use Rattle.edit_apply.specs.Kept.{with_path}
use Rattle.edit_apply.proofs.kept.mark_path.Given as goal

abbrev pub invariant-loop-node : goal.invariant-loop-node
invariant-loop-node l = with_path (drop l.node-index l.path) 0 l.marks ≡ with_path l.path 0 l.initial.marks
