use Rattle.std.proofs.Common.{◌≡◌, drop}
use Rattle.lp_defs.specs.Path.{entering}
use Rattle.simplex_core.proofs.tableau.enter.Given as goal

abbrev pub invariant-loop-term : goal.invariant-loop-term
invariant-loop-term l = entering l.columns (drop l.term-index l.entries) ≡ entering l.columns l.entries
