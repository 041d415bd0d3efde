use Rattle.std.proofs.Common.{sym, ◌∙◌}
use Rattle.smps_session.proofs.WholeLemmas.{closed_answers}
use Rattle.smps_session.proofs.whole.whole.Goals as goal

pub returns-then-is_closed : goal.returns-then-is_closed
returns-then-is_closed c =
    closed_answers c.args.program.now c.args.budget c.args.own.now c.in_ok-guess.guess c.in_ok-guess.ensures
    (c.is_closed.ensures c.if-is_closed.true)
