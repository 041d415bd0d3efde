-- What is looked at so far has no value of the row.
use Rattle.std.proofs.Common.{◌≡◌, reverse}
use Rattle.rationals.specs.Forms.{find}
use Rattle.mps_core.proofs.terms.value_among.Given as goal

abbrev pub invariant-loop-term : goal.invariant-loop-term
invariant-loop-term l = find (reverse l.term-iterator.iter.rest.now) l.row ≡ find (reverse l.terms) l.row
