use Rattle.std.proofs.Common.{◌≡◌, [], map}
use Rattle.build_defs.specs.Scenarios.{stages_from}
use Rattle.time_defs.specs.Periods.{stages}
use Rattle.tree_build.specs.Values.{values_of, all_content}
use Rattle.tree_build.proofs.base.base.Given as goal

abbrev pub invariant-loop-stage : goal.invariant-loop-stage
invariant-loop-stage l = all_content l.all.items ≡ map (values_of l.core (stages l.periods) []) (stages_from 0 l.stage)
