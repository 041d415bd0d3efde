use Rattle.std.proofs.Common.{◌≡◌, drop}
use Rattle.lp_defs.specs.Phases.{priced}
use Rattle.simplex_core.proofs.start.price.Given as goal

abbrev pub invariant-loop-row : goal.invariant-loop-row
invariant-loop-row l = priced l.cost (drop l.row-index l.rows) l.objective ≡ priced l.cost l.rows l.cost
