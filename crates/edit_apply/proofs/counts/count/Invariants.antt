use Rattle.std.proofs.Common.{◌≡◌, drop}
use Rattle.scen_defs.specs.Program.{nodes_content}
use Rattle.edit_defs.specs.Limits.{counts, plus}
use Rattle.edit_apply.proofs.counts.count.Given as goal

abbrev pub invariant-loop-place : goal.invariant-loop-place
invariant-loop-place l = plus l.all (counts (nodes_content (drop l.place-index l.nodes))) ≡ counts (nodes_content l.nodes)
