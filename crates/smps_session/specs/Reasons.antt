-- Why the nested method leaves a report open.
use Rattle.std.specs.Prelude.{◌≡◌, ◌⊎◌}
use Rattle.scen_defs.specs.Program.{content}
use Rattle.scen_defs.specs.declared.program.Program.{Program}
use Rattle.report_defs.specs.Truth.{Reasons}
use Rattle.proved_report.specs.Open.{IsPassing}
use Rattle.proved_report.specs.Passing.{PassesInTest}
use Rattle.pass_core.specs.declared.budget.Budget.{Budget}
use Rattle.nested_method.specs.Stands.{PassesInMethod, EndsPivots}

-- PASSED: the operation passes 128 bits, and it is one of the method on this program at that place, or of a test of what was found.
-- PIVOTS: a solve of the program of a node came to the end of the pivots that are allowed. SOLVES: so many solves are allowed.
abbrev pub told_reasons : Program → Budget → Reasons
told_reasons program budget = record {
  passes = λ place o. IsPassing o × (PassesInMethod (content program) budget.pivots place o ⊎ PassesInTest program place o);
  pivots_end = λ k. EndsPivots (content program) budget.pivots;
  solves_end = λ n. n ≡ budget.solves;
}
