use Rattle.node_lp.proofs.ShownLemmas.{shows_cut}
use Rattle.node_lp.proofs.shown.shown_cut.Goals as goal

pub returns-in-Ok : goal.returns-in-Ok
returns-in-Ok c = shows_cut c.args.task.now c.args.kind c.args.multipliers c.in-Ok.cut c.requires.problem c.in_ok-test_record.ensures c.in-Ok.ensures.walk c.in-Ok.ensures.made
