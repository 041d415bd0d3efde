use Rattle.std.proofs.Common.{◌≡◌, drop}
use Rattle.lp_defs.specs.Phases.{has_artificial_above}
use Rattle.simplex_core.proofs.drive.has_artificial_above.Given as goal

abbrev pub invariant-loop-row : goal.invariant-loop-row
invariant-loop-row l = has_artificial_above l.columns (drop l.row-index l.rows) ≡ has_artificial_above l.columns l.rows
