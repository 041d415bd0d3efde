-- What isn't there yet is set on the rest of the path.
use Rattle.std.proofs.Common.{◌≡◌, ◌+◌, ℕ, Option, Some, None, map}
use Rattle.smps_words.specs.declared.entry.Entry.{Entry}
use Rattle.stoch_defs.specs.Stated.{value_set, path_among, paths_of}
use Rattle.scenario_paths.specs.Paths.{set_first, node_stated}
use Rattle.scenario_paths.proofs.hand.collected.Given as goal

abbrev pub invariant-loop-next : goal.invariant-loop-next
invariant-loop-next l = (e : Entry) →
    set_first (value_set l.values.entries e) (value_set (path_among (paths_of (map node_stated l.scenarios)) l.next) e)
    ≡ value_set (path_among (paths_of (map node_stated l.scenarios)) (Some l.number)) e

abbrev pub steps_left : Option ℕ → ℕ
steps_left None = 0
steps_left (Some at) = at + 1

abbrev pub decreases-loop-next : goal.decreases-loop-next
decreases-loop-next l = steps_left l.next
