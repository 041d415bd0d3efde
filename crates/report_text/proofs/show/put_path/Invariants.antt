use Rattle.std.proofs.Common.{◌≡◌, ◌++◌, drop}
use Rattle.report_text.specs.Shown.{path_text}
use Rattle.report_text.proofs.show.put_path.Given as goal

abbrev pub invariant-loop-node : goal.invariant-loop-node
invariant-loop-node l = l.out.items ++ path_text (drop l.node-index l.path) ≡ l.fn.out.items ++ path_text l.path
