use Rattle.std.proofs.Common.{◌≡◌, drop}
use Rattle.smps_cli.specs.Measured.{any_open_scenario}
use Rattle.smps_cli.proofs.value.any_open_scenario.Given as goal

abbrev pub invariant-loop-scenario : goal.invariant-loop-scenario
invariant-loop-scenario l = any_open_scenario (drop l.scenario-index l.scenarios) ≡ any_open_scenario l.scenarios
