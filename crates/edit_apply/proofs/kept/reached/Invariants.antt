use Rattle.std.proofs.Common.{◌≡◌, false, drop, length, replicate}
use Rattle.scen_defs.specs.Program.{nodes_content, scenarios_content}
use Rattle.edit_apply.specs.Kept.{with_paths}
use Rattle.edit_apply.proofs.kept.reached.Given as goal

abbrev pub invariant-loop-scenario : goal.invariant-loop-scenario
invariant-loop-scenario l =
    with_paths (scenarios_content (drop l.scenario-index l.scenarios)) 0 l.marks.items ≡ with_paths (scenarios_content l.scenarios) 0 (replicate (length (nodes_content l.nodes)) false)
