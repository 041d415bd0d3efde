use Rattle.std.proofs.Common.{◌≡◌, drop}
use Rattle.simplex_core.specs.Checks.{form_below}
use Rattle.simplex_core.proofs.standard.is_form_below.Given as goal

abbrev pub invariant-loop-term : goal.invariant-loop-term
invariant-loop-term l = form_below l.columns l.least (drop l.term-index l.terms) ≡ form_below l.columns 0 l.terms
