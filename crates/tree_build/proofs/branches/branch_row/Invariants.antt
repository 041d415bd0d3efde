use Rattle.std.proofs.Common.{◌≡◌, map}
use Rattle.stoch_defs.specs.Random.{branch_content}
use Rattle.build_defs.specs.Scenarios.{stages_from}
use Rattle.tree_build.specs.Numbering.{rows_content}
use Rattle.tree_build.specs.Branches.{branch_key}
use Rattle.tree_build.proofs.branches.branch_row.Given as goal

abbrev pub invariant-loop-stage : goal.invariant-loop-stage
invariant-loop-stage l = l.row.items ≡ map (branch_key (rows_content l.rows) (branch_content l.branch) l.own) (stages_from 0 l.stage)
