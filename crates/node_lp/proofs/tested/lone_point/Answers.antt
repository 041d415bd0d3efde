use Rattle.node_lp.proofs.TestedLemmas.{kept_values, lone_told, lone_answers}
use Rattle.node_lp.proofs.tested.lone_point.Goals as goal

pub returns-clause-told : goal.returns-clause-told
returns-clause-told c =
    lone_told c.args.task.now c.args.point c.args.costs.now c.in_ok-value.value c.keeps_order.ensures
    (kept_values c.args.task.now c.args.point c.bounds.result.now c.terms.result.now c.bounds.ensures.bounds c.terms.ensures c.in_ok-test_values.ensures)
    c.in_ok-test_point.ensures c.in_ok-value.ensures c.requires.priced

pub returns-clause-answer : goal.returns-clause-answer
returns-clause-answer c =
    lone_answers c.args.task.now c.args.point c.args.costs.now c.in_ok-value.value c.keeps_order.ensures
    (kept_values c.args.task.now c.args.point c.bounds.result.now c.terms.result.now c.bounds.ensures.bounds c.terms.ensures c.in_ok-test_values.ensures)
    c.in_ok-test_point.ensures c.in_ok-value.ensures c.requires.priced
