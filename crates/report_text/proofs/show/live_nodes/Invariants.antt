use Rattle.std.proofs.Common.{◌≡◌, ◌+◌, ◌≤◌, drop}
use Rattle.scen_defs.specs.Program.{nodes_content}
use Rattle.report_text.specs.Shown.{live_count}
use Rattle.report_text.proofs.show.live_nodes.Given as goal

abbrev pub invariant-loop-slot : goal.invariant-loop-slot
invariant-loop-slot l = (l.count + live_count (nodes_content (drop l.slot-index l.nodes)) ≡ live_count (nodes_content l.nodes)) × (l.count ≤ l.slot-index)
