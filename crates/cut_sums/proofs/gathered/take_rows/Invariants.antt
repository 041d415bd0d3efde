use Rattle.std.proofs.Common.{drop}
use Rattle.rationals.specs.Sparse.{Ascending, coefficient}
use Rattle.scen_defs.specs.Walks.{less_from}
use Rattle.cut_sums.proofs.TallyLaws.{Remains}
use Rattle.cut_sums.proofs.gathered.take_rows.Given as goal

abbrev pub invariant-loop-row : goal.invariant-loop-row
invariant-loop-row l = record {
  rises : Ascending 0 l.tally;
  kept : Remains (λ j. less_from j (coefficient l.multipliers)) l.tally (drop l.row-index l.rows) l.initial.tally l.rows;
}
