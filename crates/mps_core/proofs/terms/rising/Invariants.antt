-- The terms so far and those of the rest are those of the whole.
use Rattle.std.proofs.Common.{◌≡◌, ◌++◌, length}
use Rattle.core_defs.specs.Terms.{nonzero_terms, terms_of}
use Rattle.mps_core.specs.Falling.{terms_in}
use Rattle.mps_core.proofs.terms.rising.Given as goal

abbrev pub invariant-loop-term : goal.invariant-loop-term
invariant-loop-term l = l.terms.items ++ nonzero_terms (terms_in l.falling.items l.values.entries)
    ≡ nonzero_terms (terms_in l.fn.falling.items l.fn.values.entries)

abbrev pub decreases-loop-term : goal.decreases-loop-term
decreases-loop-term l = length l.falling.items

abbrev pub invariant-loop-column : goal.invariant-loop-column
invariant-loop-column l = l.terms.items ++ nonzero_terms (terms_of l.values.entries)
    ≡ nonzero_terms (terms_in l.fn.falling.items l.fn.values.entries)

abbrev pub decreases-loop-column : goal.decreases-loop-column
decreases-loop-column l = length l.values.entries
