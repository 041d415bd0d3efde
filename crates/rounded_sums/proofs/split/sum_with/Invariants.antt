use Rattle.std.proofs.Common.{drop}
use Rattle.rationals.specs.Rational.{◌+ℚ◌}
use Rattle.rounded_sums.specs.Sides.{Beside}
use Rattle.rounded_sums.specs.Parts.{sum_of}
use Rattle.rounded_sums.proofs.split.sum_with.Given as goal

abbrev pub invariant-loop-part : goal.invariant-loop-part
invariant-loop-part l = Beside l.side (l.fn.whole +ℚ sum_of l.parts) (l.sum +ℚ sum_of (drop l.part-index l.parts))
