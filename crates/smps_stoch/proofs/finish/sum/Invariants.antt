-- The sum from here on is the sum from the start.
use Rattle.std.proofs.Common.{◌≡◌, drop}
use Rattle.rationals.specs.Rational.{zero_ℚ}
use Rattle.stoch_defs.specs.Finish.{sum_from}
use Rattle.smps_stoch.proofs.finish.sum.Given as goal

abbrev pub invariant-loop-value : goal.invariant-loop-value
invariant-loop-value l = sum_from l.total (drop l.value-index l.values) ≡ sum_from zero_ℚ l.values
