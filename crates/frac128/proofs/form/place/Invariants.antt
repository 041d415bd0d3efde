use Rattle.std.proofs.Common.{◌≡◌, ◌≤◌, length, ◌-◌, drop}
use Rattle.rationals.specs.Sparse.{coefficient, Ascending}
use Rattle.frac128.proofs.form.place.Given as goal

abbrev pub invariant-bisection : goal.invariant-bisection
invariant-bisection l = record { order : l.first ≤ l.end; within : l.end ≤ length l.xs; before : coefficient (drop l.first l.xs) l.column ≡ coefficient l.xs l.column; behind : Ascending l.column (drop l.end l.xs) }

abbrev pub decreases-bisection : goal.decreases-bisection
decreases-bisection l = l.end - l.first
