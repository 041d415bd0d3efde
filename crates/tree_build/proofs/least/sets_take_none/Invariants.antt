use Rattle.std.proofs.Common.{drop}
use Rattle.tree_build.specs.Least.{SetsTakeNone}
use Rattle.tree_build.proofs.least.sets_take_none.Given as goal

abbrev pub invariant-loop-pair : goal.invariant-loop-pair
invariant-loop-pair l = SetsTakeNone (drop l.pair-index l.sets) → SetsTakeNone l.sets
