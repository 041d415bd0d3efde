use Rattle.std.proofs.Common.{◌-◌, ◌<◌, ◌≤◌, length, take}
use Rattle.tree_build.specs.Turns.{AllFall}
use Rattle.tree_build.proofs.turns.falling.Given as goal

abbrev pub invariant-run : goal.invariant-run
invariant-run l = record { some : 0 < l.count; within : l.count ≤ length l.sets; falls : AllFall (take l.count l.sets) }

abbrev pub decreases-run : goal.decreases-run
decreases-run l = length l.sets - l.count
