-- The constraints so far and those of the other names are all.
use Rattle.std.proofs.Common.{◌≡◌, ◌++◌, drop}
use Rattle.core_defs.specs.Finished.{row_defs}
use Rattle.mps_core.specs.View.{filed}
use Rattle.mps_core.proofs.whole.row_defs.Given as goal

abbrev pub invariant-loop-row : goal.invariant-loop-row
invariant-loop-row l = l.rows.items ++ row_defs (filed l.draft) l.row (drop l.row l.draft.rows) ≡ row_defs (filed l.draft) 0 l.draft.rows
