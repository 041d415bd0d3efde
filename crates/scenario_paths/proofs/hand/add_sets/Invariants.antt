-- The last of the values have been set.
use Rattle.std.proofs.Common.{◌≡◌, ◌≤◌, drop, length}
use Rattle.smps_words.specs.declared.entry.Entry.{Entry}
use Rattle.stoch_defs.specs.Stated.{value_set}
use Rattle.scenario_paths.specs.Paths.{set_first}
use Rattle.scenario_paths.proofs.hand.add_sets.Given as goal

abbrev pub invariant-loop-left : goal.invariant-loop-left
invariant-loop-left l = record {
  within : l.left ≤ length l.sets;
  values : (e : Entry) → value_set l.values.entries e ≡ set_first (value_set (drop l.left l.sets) e) (value_set l.fn.values.entries e);
}

abbrev pub decreases-loop-left : goal.decreases-loop-left
decreases-loop-left l = l.left
