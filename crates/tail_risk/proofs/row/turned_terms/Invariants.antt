use Rattle.std.proofs.Common.{◌≡◌, ◌++◌, drop}
use Rattle.tail_risk.specs.TailRow.{with_other_signs}
use Rattle.tail_risk.proofs.row.turned_terms.Given as goal

abbrev pub invariant-loop-term : goal.invariant-loop-term
invariant-loop-term l = l.all.items ++ with_other_signs (drop l.term-index l.terms) ≡ with_other_signs l.terms
