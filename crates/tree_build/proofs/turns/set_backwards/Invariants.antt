use Rattle.std.proofs.Common.{◌≡◌, ◌≤◌, drop, length}
use Rattle.time_defs.specs.Periods.{stages}
use Rattle.tree_build.specs.Values.{values_content, with_sets}
use Rattle.tree_build.proofs.turns.set_backwards.Given as goal

abbrev pub invariant-back : goal.invariant-back
invariant-back l = record {
  within : l.left ≤ length l.sets;
  done : values_content l.values ≡ with_sets l.core (stages l.periods) l.stage (values_content l.initial.values) (drop l.left l.sets);
}

abbrev pub decreases-back : goal.decreases-back
decreases-back l = l.left
