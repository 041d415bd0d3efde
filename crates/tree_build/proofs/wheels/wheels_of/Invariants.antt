use Rattle.std.proofs.Common.{◌≡◌, map, flat_map}
use Rattle.stoch_defs.specs.Random.{block_content}
use Rattle.build_defs.specs.Scenarios.{stages_from}
use Rattle.tree_build.specs.Wheels.{wheels_at}
use Rattle.tree_build.proofs.wheels.wheels_of.Given as goal

abbrev pub invariant-loop-stage : goal.invariant-loop-stage
invariant-loop-stage l = l.wheels.items ≡ flat_map (λ stage. wheels_at stage 0 (map block_content l.blocks)) (stages_from 0 l.stage)
