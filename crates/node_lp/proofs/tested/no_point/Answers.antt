use Rattle.std.proofs.Common.{sym, subst}
use Rattle.rationals.specs.Rational.{zero_ℚ, ◌<ℚ◌}
use Rattle.node_lp.proofs.TestedLemmas.{trial_value_is, none_told, none_answers}
use Rattle.node_lp.proofs.tested.no_point.Goals as goal

pub returns-clause-told : goal.returns-clause-told
returns-clause-told c = none_told c.args.task.now c.args.multipliers c.in_ok-cut.cut c.in_ok-cut.ensures
    (subst (λ q. zero_ℚ <ℚ q) (sym (trial_value_is c.args.task.now c.in_ok-cut.cut c.cut-2.result.now c.in_ok-bound.bound c.cut-2.ensures c.in_ok-bound.ensures)) c.in_ok-above_zero.ensures)

pub returns-clause-answer : goal.returns-clause-answer
returns-clause-answer c = none_answers c.args.task.now c.args.multipliers c.in_ok-cut.cut c.in_ok-cut.ensures
    (subst (λ q. zero_ℚ <ℚ q) (sym (trial_value_is c.args.task.now c.in_ok-cut.cut c.cut-2.result.now c.in_ok-bound.bound c.cut-2.ensures c.in_ok-bound.ensures)) c.in_ok-above_zero.ensures)
    c.requires
