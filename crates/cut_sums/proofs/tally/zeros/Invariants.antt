use Rattle.cut_sums.specs.Tallies.{AreZeros}
use Rattle.cut_sums.proofs.tally.zeros.Given as goal

abbrev pub invariant-loop-column : goal.invariant-loop-column
invariant-loop-column l = AreZeros l.tally.items
