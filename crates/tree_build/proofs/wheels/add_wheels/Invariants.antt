use Rattle.std.proofs.Common.{◌≡◌, ◌++◌, map, drop}
use Rattle.stoch_defs.specs.Random.{block_content}
use Rattle.tree_build.specs.Wheels.{wheels_at}
use Rattle.tree_build.proofs.wheels.add_wheels.Given as goal

abbrev pub invariant-loop-number : goal.invariant-loop-number
invariant-loop-number l =
    l.wheels.items ++ wheels_at l.stage l.number (map block_content (drop l.number l.blocks)) ≡ l.initial.wheels.items ++ wheels_at l.stage 0 (map block_content l.blocks)
