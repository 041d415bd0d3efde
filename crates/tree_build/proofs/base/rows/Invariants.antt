use Rattle.std.proofs.Common.{◌≡◌, ◌++◌, drop}
use Rattle.tree_build.specs.Base.{base_rows}
use Rattle.tree_build.proofs.base.rows.Given as goal

abbrev pub invariant-loop-place : goal.invariant-loop-place
invariant-loop-place l = l.rows.items ++ base_rows l.defs l.forms l.stage l.place (drop l.place l.stages) ≡ base_rows l.defs l.forms l.stage 0 l.stages
