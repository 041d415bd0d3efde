use Rattle.std.proofs.Common.{◌≡◌, ◌+◌, ◌≤◌, drop, length}
use Rattle.scen_defs.specs.Lists.{places}
use Rattle.scen_defs.specs.Program.{is_live, nodes_content}
use Rattle.certificate_check.proofs.shape.live_nodes.Given as goal

abbrev pub invariant-loop-place : goal.invariant-loop-place
invariant-loop-place l = (l.count + length (places is_live l.place (nodes_content (drop l.place l.nodes))) ≡ length (places is_live 0 (nodes_content l.nodes))) × (l.count ≤ l.place)
