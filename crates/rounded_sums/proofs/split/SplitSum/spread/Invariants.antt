use Rattle.std.proofs.Common.{◌≡◌}
use Rattle.rationals.specs.Rational.{◌+ℚ◌}
use Rattle.rounded_sums.proofs.split.SplitSum.spread.Given as goal

abbrev pub invariant-loop-place : goal.invariant-loop-place
invariant-loop-place l = l.sum +ℚ l.left ≡ l.fn.self +ℚ l.fn.number
