use Rattle.std.proofs.Common.{◌≡◌, ◌++◌, drop, None}
use Rattle.scen_defs.specs.Program.{nodes_content}
use Rattle.edit_apply.proofs.Numbers.{copied}
use Rattle.edit_apply.proofs.copies.copies.Given as goal

abbrev pub invariant-loop-stage : goal.invariant-loop-stage
invariant-loop-stage l =
    nodes_content l.all.items ++ copied (nodes_content l.nodes) l.stages l.first l.stage l.above (drop l.stage l.path)
    ≡ copied (nodes_content l.nodes) l.stages l.first 0 None l.path
