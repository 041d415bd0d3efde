use Rattle.std.proofs.Common.{◌≡◌, length}
use Rattle.time_defs.specs.Periods.{stages}
use Rattle.tree_build.specs.Values.{values_content, with_sets}
use Rattle.tree_build.proofs.values.set_all.Given as goal

abbrev pub invariant-runs : goal.invariant-runs
invariant-runs l =
    with_sets l.core (stages l.periods) l.stage (values_content l.values) l.rest ≡ with_sets l.core (stages l.periods) l.stage (values_content l.initial.values) l.sets

abbrev pub decreases-runs : goal.decreases-runs
decreases-runs l = length l.rest
