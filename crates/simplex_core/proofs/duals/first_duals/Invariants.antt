use Rattle.std.proofs.Common.{◌≡◌, ◌+◌, ◌-◌, []}
use Rattle.lp_defs.specs.Phases.{first_duals}
use Rattle.simplex_core.proofs.duals.first_duals.Given as goal

abbrev pub invariant-loop-column : goal.invariant-loop-column
invariant-loop-column l = first_duals l.column ((l.first + l.count) - l.column) l.objective l.duals.items ≡ first_duals l.first l.count l.objective []
