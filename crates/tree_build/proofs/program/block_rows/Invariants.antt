use Rattle.std.proofs.Common.{◌≡◌, map}
use Rattle.build_defs.specs.Scenarios.{stages_from}
use Rattle.tree_build.specs.Numbering.{rows_content}
use Rattle.tree_build.specs.Wheels.{sizes_of, digits_of, key_row}
use Rattle.tree_build.proofs.program.block_rows.Given as goal

abbrev pub invariant-loop-number : goal.invariant-loop-number
invariant-loop-number l = rows_content l.rows.items ≡ map (λ number. key_row l.wheels l.stages (digits_of (sizes_of l.wheels) number)) (stages_from 0 l.number)
