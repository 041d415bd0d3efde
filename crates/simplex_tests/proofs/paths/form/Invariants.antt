use Rattle.rationals.specs.Forms.{EndsBelow}
use Rattle.simplex_tests.proofs.paths.form.Given as goal

abbrev pub invariant-loop-column : goal.invariant-loop-column
invariant-loop-column l = EndsBelow l.column l.form
