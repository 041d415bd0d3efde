use Rattle.std.proofs.Common.{◌≡◌, drop}
use Rattle.lp_defs.specs.Path.{has_above_zero}
use Rattle.simplex_core.proofs.choice.has_above_zero.Given as goal

abbrev pub invariant-loop-row : goal.invariant-loop-row
invariant-loop-row l = has_above_zero l.column (drop l.row-index l.rows) ≡ has_above_zero l.column l.rows
