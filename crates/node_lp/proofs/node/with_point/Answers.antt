use Rattle.std.proofs.Common.{sym, ◌∙◌}
use Rattle.node_lp.proofs.AnswerShows.{point_with_cut, point_stopped}
use Rattle.node_lp.proofs.node.with_point.Goals as goal

pub returns-in-Ok-clause-answer : goal.returns-in-Ok-clause-answer
returns-in-Ok-clause-answer c =
    point_with_cut c.args.task.now c.args.point c.args.value c.args.multipliers c.in-Ok.cut c.requires.problem c.requires.sound (sym c.is_priced.ensures ∙ c.if-is_priced.true)
    c.in-Ok.ensures.walk c.in-Ok.ensures.made

pub returns-in-Err-clause-answer : goal.returns-in-Err-clause-answer
returns-in-Err-clause-answer c =
    point_stopped c.args.task.now c.args.point c.args.value c.args.multipliers c.requires.problem c.requires.sound (sym c.is_priced.ensures ∙ c.if-is_priced.true)
    c.in-Err.fault c.in-Err.ensures.walk c.stopped_in_cut.result c.stopped_in_cut.ensures
