use Rattle.std.proofs.Common.{◌≡◌, drop}
use Rattle.lp_defs.specs.Phases.{nonzero_below}
use Rattle.simplex_core.proofs.drive.nonzero_below.Given as goal

abbrev pub invariant-loop-term : goal.invariant-loop-term
invariant-loop-term l = nonzero_below l.columns (drop l.term-index l.entries) ≡ nonzero_below l.columns l.entries
