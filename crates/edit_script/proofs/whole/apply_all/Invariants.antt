use Rattle.std.proofs.Common.{◌≡◌, length}
use Rattle.scen_defs.specs.Program.{content}
use Rattle.edit_defs.specs.Limits.{counts}
use Rattle.edit_script.specs.Allowed.{AreAllowed, program_after}
use Rattle.edit_script.proofs.whole.apply_all.Given as goal

abbrev pub invariant-loop-rest : goal.invariant-loop-rest
invariant-loop-rest l = AreAllowed (content l.program) l.rest
    × (l.counted ≡ counts (content l.program).nodes)
    × (program_after (content l.program) l.rest ≡ program_after (content l.fn.program) l.script.items.items)

abbrev pub decreases-loop-rest : goal.decreases-loop-rest
decreases-loop-rest l = length l.rest
