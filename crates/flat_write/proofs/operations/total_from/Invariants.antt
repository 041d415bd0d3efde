use Rattle.std.proofs.Common.{◌≡◌, drop}
use Rattle.rationals.specs.Rational.{zero_ℚ}
use Rattle.scen_defs.specs.Program.{scenarios_content}
use Rattle.scen_defs.specs.Walks.{total_from}
use Rattle.flat_write.proofs.operations.total_from.Given as goal

abbrev pub invariant-loop-scenario : goal.invariant-loop-scenario
invariant-loop-scenario l =
    total_from l.node l.sum (scenarios_content (drop l.scenario-index l.scenarios)) ≡ total_from l.node zero_ℚ (scenarios_content l.scenarios)
