use Rattle.std.proofs.Common.{◌≤◌, length, ◌-◌, take, drop}
use Rattle.rationals.specs.Sparse.{Ascending}
use Rattle.rationals.specs.Forms.{EndsBelow}
use Rattle.tree_build.proofs.terms.place.Given as goal

abbrev pub invariant-bisection : goal.invariant-bisection
invariant-bisection l = record { order : l.first ≤ l.end; within : l.end ≤ length l.xs; before : EndsBelow l.column (take l.first l.xs); behind : Ascending l.column (drop l.end l.xs) }

abbrev pub decreases-bisection : goal.decreases-bisection
decreases-bisection l = l.end - l.first
