use Rattle.std.proofs.Common.{drop}
use Rattle.rationals.specs.Sparse.{Ascending}
use Rattle.cut_proof.specs.View.{uses_content}
use Rattle.cut_sums.specs.Walks.{uses_from}
use Rattle.cut_sums.proofs.TallyLaws.{Remains}
use Rattle.cut_proof.proofs.gathered.add_used.Given as goal

abbrev pub invariant-loop-one : goal.invariant-loop-one
invariant-loop-one l = record {
  rises : Ascending 0 l.tally;
  kept : Remains uses_from l.tally (uses_content (drop l.one-index l.used)) l.initial.tally (uses_content l.used);
}
