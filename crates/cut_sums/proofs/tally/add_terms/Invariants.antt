use Rattle.std.proofs.Common.{drop}
use Rattle.rationals.specs.Sparse.{Ascending}
use Rattle.cut_sums.specs.Tallies.{all_weighted_from}
use Rattle.cut_sums.proofs.TallyLaws.{Remains}
use Rattle.cut_sums.proofs.tally.add_terms.Given as goal

abbrev pub invariant-loop-term : goal.invariant-loop-term
invariant-loop-term l = record {
  rises : Ascending 0 l.tally;
  kept : Remains (all_weighted_from l.weight) l.tally (drop l.term-index l.terms) l.initial.tally l.terms;
}
