use Rattle.std.proofs.Common.{◌≡◌, drop, None}
use Rattle.lp_defs.specs.Path.{leaving}
use Rattle.simplex_core.proofs.choice.leave.Given as goal

abbrev pub invariant-loop-index : goal.invariant-loop-index
invariant-loop-index l = leaving l.column (drop l.index l.rows) l.index l.best ≡ leaving l.column l.rows 0 None
