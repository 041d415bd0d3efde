use Rattle.std.proofs.Common.{◌≡◌, ◌++◌, drop}
use Rattle.build_defs.specs.Built.{columns_from}
use Rattle.time_defs.specs.Periods.{stages}
use Rattle.tree_build.proofs.finish.columns_of.Given as goal

abbrev pub invariant-loop-place : goal.invariant-loop-place
invariant-loop-place l = l.all.items ++ columns_from (stages l.periods) l.place (drop l.place l.core.columns.items) ≡ columns_from (stages l.periods) 0 l.core.columns.items
