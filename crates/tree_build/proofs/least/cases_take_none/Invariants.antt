use Rattle.std.proofs.Common.{drop, map}
use Rattle.stoch_defs.specs.Random.{case_content}
use Rattle.tree_build.specs.Least.{CasesTakeNone}
use Rattle.tree_build.proofs.least.cases_take_none.Given as goal

abbrev pub invariant-loop-case : goal.invariant-loop-case
invariant-loop-case l = CasesTakeNone (map case_content (drop l.case-index l.cases)) → CasesTakeNone (map case_content l.cases)
