use Rattle.std.proofs.Common.{◌≡◌, ◌++◌, drop}
use Rattle.build_defs.specs.Built.{rows_from}
use Rattle.time_defs.specs.Periods.{stages}
use Rattle.tree_build.proofs.finish.rows_of.Given as goal

abbrev pub invariant-loop-place : goal.invariant-loop-place
invariant-loop-place l = l.all.items ++ rows_from (stages l.periods) l.place (drop l.place l.core.rows.items) ≡ rows_from (stages l.periods) 0 l.core.rows.items
