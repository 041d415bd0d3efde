use Rattle.std.proofs.Common.{◌≡◌, take}
use Rattle.tree_build.proofs.finish.names_of.Given as goal

abbrev pub invariant-loop-name : goal.invariant-loop-name
invariant-loop-name l = l.all.items ≡ take l.name-index l.names
