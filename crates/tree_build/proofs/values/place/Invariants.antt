use Rattle.std.proofs.Common.{◌≤◌, length, ◌-◌, take, drop}
use Rattle.tree_build.specs.Values.{RowsFrom, RowsBelow}
use Rattle.tree_build.proofs.values.place.Given as goal

abbrev pub invariant-bisection : goal.invariant-bisection
invariant-bisection l = record { order : l.first ≤ l.end; within : l.end ≤ length l.rows; before : RowsBelow l.row (take l.first l.rows); behind : RowsFrom l.row (drop l.end l.rows) }

abbrev pub decreases-bisection : goal.decreases-bisection
decreases-bisection l = l.end - l.first
