-- The probabilities so far.
use Rattle.std.proofs.Common.{◌≡◌, ◌++◌, drop, map}
use Rattle.stoch_defs.specs.Finish.{chance_of}
use Rattle.stoch_defs.specs.Random.{case_content}
use Rattle.smps_stoch.proofs.finish.chances.Given as goal

abbrev pub invariant-loop-case : goal.invariant-loop-case
invariant-loop-case l = l.chances.items ++ map chance_of (map case_content (drop l.case-index l.cases)) ≡ map chance_of (map case_content l.cases)
