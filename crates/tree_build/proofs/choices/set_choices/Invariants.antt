use Rattle.std.proofs.Common.{◌≡◌, map, drop}
use Rattle.stoch_defs.specs.Random.{block_content}
use Rattle.time_defs.specs.Periods.{stages}
use Rattle.tree_build.specs.Values.{values_content, with_sets}
use Rattle.tree_build.specs.Choices.{sets_of}
use Rattle.tree_build.proofs.choices.set_choices.Given as goal

abbrev pub invariant-loop-place : goal.invariant-loop-place
invariant-loop-place l =
    with_sets l.core (stages l.periods) l.stage (values_content l.values) (sets_of (map block_content l.blocks) (drop l.place l.wheels) (drop l.place l.digits))
    ≡ with_sets l.core (stages l.periods) l.stage (values_content l.initial.values) (sets_of (map block_content l.blocks) l.wheels l.digits)
