-- What is left makes the rest of the scenarios.
use Rattle.std.proofs.Common.{◌≡◌, ◌++◌, drop, map}
use Rattle.stoch_defs.specs.Finish.{branches_with}
use Rattle.scenario_paths.specs.Paths.{node_stated}
use Rattle.smps_stoch.specs.View.{branches_in}
use Rattle.smps_stoch.proofs.finish.branches_with.Given as goal

abbrev pub invariant-loop-scenario : goal.invariant-loop-scenario
invariant-loop-scenario l =
    branches_in l.done ++ branches_with (drop l.number l.names) l.rest_heads (map node_stated l.scenario-iterator.rest.items) l.rest_parts
    ≡ branches_with l.names l.heads (map node_stated l.fn.scenarios.items) l.parts
