use Rattle.node_lp.proofs.TestedLemmas.{kept_values, trial_value, point_told, point_answers}
use Rattle.node_lp.proofs.tested.priced_point.Goals as goal

pub returns-clause-told : goal.returns-clause-told
returns-clause-told c =
    point_told c.args.task.now c.args.point c.args.costs.now c.in_ok-value.value c.keeps_order.ensures
    (kept_values c.args.task.now c.args.point c.bounds.result.now c.terms.result.now c.bounds.ensures.bounds c.terms.ensures c.in_ok-test_values.ensures)
    c.in_ok-test_point.ensures c.in_ok-value.ensures c.args.multipliers c.in_ok-cut.cut c.requires.priced c.in_ok-cut.ensures
    (trial_value c.args.task.now c.in_ok-cut.cut c.cut-2.result.now c.in_ok-bound.bound c.in_ok-value.value c.cut-2.ensures c.in_ok-bound.ensures c.in_ok-equal.ensures)

pub returns-clause-answer : goal.returns-clause-answer
returns-clause-answer c =
    point_answers c.args.task.now c.args.point c.args.costs.now c.in_ok-value.value c.keeps_order.ensures
    (kept_values c.args.task.now c.args.point c.bounds.result.now c.terms.result.now c.bounds.ensures.bounds c.terms.ensures c.in_ok-test_values.ensures)
    c.in_ok-test_point.ensures c.in_ok-value.ensures c.args.multipliers c.in_ok-cut.cut c.requires.priced c.in_ok-cut.ensures
    (trial_value c.args.task.now c.in_ok-cut.cut c.cut-2.result.now c.in_ok-bound.bound c.in_ok-value.value c.cut-2.ensures c.in_ok-bound.ensures c.in_ok-equal.ensures)
    c.requires.problem
