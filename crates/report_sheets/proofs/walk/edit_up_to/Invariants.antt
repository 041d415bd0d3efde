use Rattle.std.proofs.Common.{◌≡◌, length}
use Rattle.scen_defs.specs.Program.{content}
use Rattle.edit_defs.specs.Limits.{counts}
use Rattle.edit_script.specs.Allowed.{AreAllowed}
use Rattle.report_sheets.specs.Sheets.{program_at}
use Rattle.report_sheets.proofs.walk.edit_up_to.Given as goal

abbrev pub invariant-loop-rest : goal.invariant-loop-rest
invariant-loop-rest l = AreAllowed (content l.program) l.rest
    × (l.counted ≡ counts (content l.program).nodes)
    × (program_at (content l.program) l.rest l.left ≡ program_at (content l.fn.program) l.script.items.items l.fn.before)

abbrev pub decreases-loop-rest : goal.decreases-loop-rest
decreases-loop-rest l = length l.rest
