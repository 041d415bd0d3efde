-- What is missing of the values that are left is still to be added.
use Rattle.std.proofs.Common.{◌≡◌, drop}
use Rattle.smps_words.specs.declared.entry.Entry.{Entry}
use Rattle.stoch_defs.specs.Stated.{value_set}
use Rattle.scenario_paths.specs.Paths.{set_first}
use Rattle.scenario_paths.proofs.hand.add_missing.Given as goal

abbrev pub invariant-loop-set : goal.invariant-loop-set
invariant-loop-set l = (e : Entry) → set_first (value_set l.values.entries e) (value_set (drop l.set-index l.sets) e) ≡ set_first (value_set l.fn.values.entries e) (value_set l.sets e)
