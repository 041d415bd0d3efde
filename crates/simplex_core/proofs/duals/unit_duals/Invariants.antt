use Rattle.std.proofs.Common.{◌≡◌, ◌+◌, ◌-◌, ◌++◌}
use Rattle.lp_defs.specs.Phases.{unit_duals}
use Rattle.simplex_core.proofs.duals.unit_duals.Given as goal

abbrev pub invariant-loop-column : goal.invariant-loop-column
invariant-loop-column l = l.duals.items ++ unit_duals l.column ((l.first + l.count) - l.column) l.objective ≡ unit_duals l.first l.count l.objective
