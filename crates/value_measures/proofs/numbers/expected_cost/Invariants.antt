use Rattle.std.proofs.Common.{◌≡◌, drop}
use Rattle.value_measures.specs.Numbers.{expected_cost, expected_from}
use Rattle.value_measures.proofs.numbers.expected_cost.Given as goal

abbrev pub invariant-loop-scenario : goal.invariant-loop-scenario
invariant-loop-scenario l = expected_from l.sum (drop l.scenario-index l.scenarios) ≡ expected_cost l.scenarios
