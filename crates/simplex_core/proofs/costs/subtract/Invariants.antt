use Rattle.std.proofs.Common.{◌≡◌, drop}
use Rattle.simplex_core.specs.Dense.{less_all}
use Rattle.simplex_core.proofs.costs.subtract.Given as goal

abbrev pub invariant-loop-entry : goal.invariant-loop-entry
invariant-loop-entry l = less_all l.values (drop l.entry-index l.entries) ≡ less_all l.initial.values l.entries
