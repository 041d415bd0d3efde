use Rattle.node_lp.proofs.AnswerShows.{no_point, no_point_stopped}
use Rattle.node_lp.proofs.node.without_point.Goals as goal

pub returns-in-Ok-clause-answer : goal.returns-in-Ok-clause-answer
returns-in-Ok-clause-answer c = no_point c.args.task.now c.args.multipliers c.in-Ok.cut c.requires.problem c.requires.sound c.in-Ok.ensures.walk c.in-Ok.ensures.made

pub returns-in-Err-clause-answer : goal.returns-in-Err-clause-answer
returns-in-Err-clause-answer c =
    no_point_stopped c.args.task.now c.args.multipliers c.requires.problem c.requires.sound c.in-Err.fault c.in-Err.ensures.walk c.stopped_in_cut.result c.stopped_in_cut.ensures
