use Rattle.std.proofs.Common.{◌≡◌, [], drop}
use Rattle.scen_defs.specs.Program.{scenarios_content}
use Rattle.scen_tree.specs.Chances.{live_sums_from, gathered_from}
use Rattle.scen_tree.proofs.totals.totals.Given as goal

abbrev pub invariant-loop-node : goal.invariant-loop-node
invariant-loop-node l =
    gathered_from l.totals.items (live_sums_from l.node (drop l.node l.positions) (scenarios_content l.scenarios)) ≡ gathered_from [] (live_sums_from 0 l.positions (scenarios_content l.scenarios))
