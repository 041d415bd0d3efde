use Rattle.std.proofs.Common.{◌≡◌, ◌++◌, drop}
use Rattle.scen_tree.specs.Trees.{lists, empty_lists}
use Rattle.scen_tree.proofs.children.childless.Given as goal

abbrev pub invariant-loop-position : goal.invariant-loop-position
invariant-loop-position l = lists l.all.items ++ empty_lists (drop l._position-index l.positions) ≡ empty_lists l.positions
