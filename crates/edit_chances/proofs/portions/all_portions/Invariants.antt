use Rattle.std.proofs.Common.{ℕ, ◌+◌, drop}
use Rattle.scen_defs.specs.Program.{scenarios_content}
use Rattle.edit_chances.specs.Portions.{HavePortions}
use Rattle.edit_chances.proofs.portions.all_portions.Given as goal

abbrev pub invariant-loop-scenario : goal.invariant-loop-scenario
invariant-loop-scenario l =
    (t : ℕ) → HavePortions l.common t (scenarios_content (drop l.scenario-index l.scenarios)) → HavePortions l.common (l.all + t) (scenarios_content l.scenarios)
