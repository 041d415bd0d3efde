use Rattle.std.proofs.Common.{◌≡◌, ◌++◌, drop}
use Rattle.simplex_core.specs.Dense.{gathered}
use Rattle.simplex_core.proofs.costs.gather.Given as goal

abbrev pub invariant-loop-column : goal.invariant-loop-column
invariant-loop-column l = l.terms.items ++ gathered l.column (drop l.column l.values) ≡ gathered 0 l.values
