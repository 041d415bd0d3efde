use Rattle.pass_core.proofs.state.State.begin_anew.Goals as goal

pub returns-clause-unused : goal.returns-clause-unused
returns-clause-unused c = λ parents kept. c.in_ok-renew.ensures.unused parents kept
