use Rattle.std.proofs.Common.{◌≡◌, ◌++◌, drop}
use Rattle.scen_defs.specs.Lists.{places}
use Rattle.scen_defs.specs.Program.{content, view_of, is_live, nodes_content}
use Rattle.flat_write.proofs.lists.live_nodes.Given as goal

abbrev pub invariant-loop-place : goal.invariant-loop-place
invariant-loop-place l =
    l.live.items ++ places is_live l.place (nodes_content (drop l.place l.program.nodes.items)) ≡ (view_of (content l.program)).live
