use Rattle.std.proofs.Common.{◌≡◌, ◌++◌, List, length}
use Rattle.scen_defs.specs.Program.{content}
use Rattle.edit_defs.specs.Limits.{counts}
use Rattle.edit_script.specs.Allowed.{AreAllowed}
use Rattle.script_checks.specs.declared.single.Checked.{Checked}
use Rattle.script_checks.specs.Checked.{AreChecked}
use Rattle.script_checks.proofs.checks.check_script.Given as goal

abbrev pub invariant-loop-rest : goal.invariant-loop-rest
invariant-loop-rest l = AreAllowed (content l.program) l.rest
    × (l.counted ≡ counts (content l.program).nodes)
    × ((later : List Checked) → AreChecked (content l.program) l.rest l.waiting later
    → AreChecked (content l.fn.program) l.script.items.items l.reports (l.checks.items ++ later))

abbrev pub decreases-loop-rest : goal.decreases-loop-rest
decreases-loop-rest l = length l.rest
