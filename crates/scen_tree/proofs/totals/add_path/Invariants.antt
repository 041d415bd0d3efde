use Rattle.std.proofs.Common.{◌≡◌, take}
use Rattle.scen_tree.specs.Sums.{with_path}
use Rattle.scen_tree.proofs.totals.add_path.Given as goal

abbrev pub invariant-loop-place : goal.invariant-loop-place
invariant-loop-place l = l.sums.items ≡ with_path (take l.place l.path) l.probability 0 l.initial.sums.items
