use Rattle.std.proofs.Common.{◌≡◌, drop, ◌++◌}
use Rattle.cut_sums.specs.Tallies.{outside}
use Rattle.cut_sums.proofs.gathered.outer_terms.Given as goal

abbrev pub invariant-loop-term : goal.invariant-loop-term
invariant-loop-term l = l.all.items ++ outside l.bounds (drop l.term-index l.tally) ≡ outside l.bounds l.tally
