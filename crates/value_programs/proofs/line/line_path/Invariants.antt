use Rattle.std.proofs.Common.{◌≡◌, ◌-◌, ◌++◌}
use Rattle.value_programs.specs.Line.{line_path}
use Rattle.value_programs.proofs.line.line_path.Given as goal

abbrev pub invariant-loop-node : goal.invariant-loop-node
invariant-loop-node l = l.path.items ++ line_path l.node (l.count - l.node) ≡ line_path 0 l.count
