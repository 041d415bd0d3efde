use Rattle.std.proofs.Common.{◌≡◌, ◌+◌, ◌++◌, drop}
use Rattle.lp_defs.specs.Phases.{unit_rows, with_units}
use Rattle.simplex_core.proofs.start.artificial_rows.Given as goal

abbrev pub invariant-loop-index : goal.invariant-loop-index
invariant-loop-index l = l.rows.items ++ unit_rows (l.first + l.index) (with_units (l.first + l.index) (drop l.index l.forms)) (drop l.index l.right) ≡ unit_rows l.first (with_units l.first l.forms) l.right
