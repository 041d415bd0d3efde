use Rattle.std.proofs.Common.{drop}
use Rattle.node_lp.specs.Places.{OfRows}
use Rattle.node_lp.proofs.shown.test_rows.Given as goal

abbrev pub invariant-loop-term : goal.invariant-loop-term
invariant-loop-term l = OfRows l.rows (drop l.term-index l.terms) → OfRows l.rows l.terms
