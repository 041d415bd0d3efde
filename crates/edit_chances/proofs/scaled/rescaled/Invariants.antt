use Rattle.std.proofs.Common.{◌≡◌, [], drop}
use Rattle.scen_defs.specs.Program.{scenarios_content}
use Rattle.edit_chances.specs.Scaled.{rescaled_from}
use Rattle.edit_chances.proofs.scaled.rescaled.Given as goal

abbrev pub invariant-loop-scenario : goal.invariant-loop-scenario
invariant-loop-scenario l =
    rescaled_from l.name l.own l.scale (scenarios_content l.made.items) (scenarios_content (drop l.scenario-index l.scenarios)) ≡ rescaled_from l.name l.own l.scale [] (scenarios_content l.scenarios)
