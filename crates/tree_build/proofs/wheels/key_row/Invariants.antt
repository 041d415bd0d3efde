use Rattle.std.proofs.Common.{◌≡◌, map}
use Rattle.build_defs.specs.Scenarios.{stages_from}
use Rattle.tree_build.specs.Wheels.{key_to}
use Rattle.tree_build.proofs.wheels.key_row.Given as goal

abbrev pub invariant-loop-stage : goal.invariant-loop-stage
invariant-loop-stage l = l.row.items ≡ map (λ stage. key_to stage l.wheels l.digits 0) (stages_from 0 l.stage)
