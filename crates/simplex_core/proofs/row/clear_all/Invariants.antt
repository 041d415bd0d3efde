use Rattle.std.proofs.Common.{◌≡◌, drop, take, []}
use Rattle.lp_defs.specs.Path.{cleared_rows}
use Rattle.simplex_core.proofs.row.clear_all.Given as goal

abbrev pub invariant-loop-k : goal.invariant-loop-k
invariant-loop-k l = cleared_rows l.column l.pivot (drop l.k l.rows) (take l.k l.rows) ≡ cleared_rows l.column l.pivot l.initial.rows []
