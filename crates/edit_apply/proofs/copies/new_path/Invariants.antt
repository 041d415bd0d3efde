use Rattle.std.proofs.Common.{◌≡◌, ◌++◌, drop}
use Rattle.edit_apply.proofs.Numbers.{numbered}
use Rattle.edit_apply.proofs.copies.new_path.Given as goal

abbrev pub invariant-loop-stage : goal.invariant-loop-stage
invariant-loop-stage l = l.new.items ++ numbered l.stages l.first l.stage (drop l.stage l.path) ≡ numbered l.stages l.first 0 l.path
