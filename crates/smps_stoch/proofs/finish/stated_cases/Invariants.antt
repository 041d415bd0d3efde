-- What is left makes the rest of the cases.
use Rattle.std.proofs.Common.{◌≡◌, ◌++◌, map}
use Rattle.stoch_defs.specs.Finish.{stated_cases}
use Rattle.smps_stoch.specs.View.{sets_in, cases_in}
use Rattle.smps_stoch.proofs.finish.stated_cases.Given as goal

abbrev pub invariant-loop-sets : goal.invariant-loop-sets
invariant-loop-sets l = cases_in l.cases ++ stated_cases l.rest (map sets_in l.sets-iterator.rest.items) ≡ stated_cases l.heads (map sets_in l.fn.case_sets.items)
