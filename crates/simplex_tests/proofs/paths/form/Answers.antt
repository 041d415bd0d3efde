use Rattle.std.proofs.Common.{◌+◌, ◌∙◌, sym, subst}
use Rattle.rationals.specs.Forms.{EndsBelow}
use Rattle.simplex_core.proofs.Columns.{below_more, below_pushed}
use Rattle.simplex_tests.proofs.paths.form.Goals as goal
use Rattle.simplex_tests.proofs.paths.form.Goals.{then-not-is_zero+in_ok-push, else-not-is_zero}

pub loop-column-preserved : goal.loop-column-preserved
loop-column-preserved c = elim c.if-not-is_zero.branch [
  | then-not-is_zero+in_ok-push w ↦ below_pushed c.loop-column.column c.index-value.result.now c.loop-column.form c.if-not-is_zero.form c.loop-column.invariant (w.form-is ∙ w.in_ok-push.ensures.ok)
  | else-not-is_zero w ↦ subst (EndsBelow (c.loop-column.column + 1)) (sym w.form-is) (below_more c.loop-column.column c.loop-column.form c.loop-column.invariant)
]
