-- What is left makes the rest of the cases.
use Rattle.std.proofs.Common.{◌≡◌, ◌++◌, map}
use Rattle.stoch_defs.specs.Finish.{with_parts}
use Rattle.stoch_defs.specs.Random.{case_content}
use Rattle.smps_stoch.specs.View.{cases_in}
use Rattle.smps_stoch.proofs.finish.with_parts.Given as goal

abbrev pub invariant-loop-case : goal.invariant-loop-case
invariant-loop-case l = cases_in l.done ++ with_parts l.rest (map case_content l.case-iterator.rest.items) ≡ with_parts l.parts (cases_in l.fn.cases)
