use Rattle.std.proofs.Common.{◌<◌, length, sym, subst}
use Rattle.rationals.specs.Rational.{zero_ℚ, ◌<ℚ◌, ne_of_gt_ℚ}
use Rattle.lp_defs.specs.Lines.{value_at}
use Rattle.lp_defs.specs.Path.{Candidate, row_at}
use Rattle.lp_defs.specs.Ends.{IsChosen}
use Rattle.simplex_core.proofs.Paths.{chosen_is}
use Rattle.simplex_core.proofs.tableau.Tableau.step.Goals as goal

pub pivot-requires-clause-within : goal.pivot-requires-clause-within
pivot-requires-clause-within c =
    let h : IsChosen c.in-Some.column c.args.self.now.rows c.in-Some-2.best = chosen_is c.in-Some.column c.leave.result c.in_ok-best.field-0 c.in-Some-2.best c.as_slice.result.now _ c.args.self.now c.leave.ensures c.in_ok-best.was c.in-Some-2.is c.as_slice.ensures.value c.self.view_is in
    subst (λ (d : Candidate). d.index < length c.args.self.now.rows) (sym c.best.view_is) h.within

pub pivot-requires-clause-nonzero : goal.pivot-requires-clause-nonzero
pivot-requires-clause-nonzero c =
    let h : IsChosen c.in-Some.column c.args.self.now.rows c.in-Some-2.best = chosen_is c.in-Some.column c.leave.result c.in_ok-best.field-0 c.in-Some-2.best c.as_slice.result.now _ c.args.self.now c.leave.ensures c.in_ok-best.was c.in-Some-2.is c.as_slice.ensures.value c.self.view_is in
    ne_of_gt_ℚ (subst (λ (d : Candidate). zero_ℚ <ℚ value_at (row_at c.args.self.now.rows d.index).line.entries c.in-Some.column) (sym c.best.view_is) h.above)
