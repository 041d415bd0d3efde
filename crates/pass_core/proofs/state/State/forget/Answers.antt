use Rattle.pass_core.proofs.Parentage.{unused_by, made_one}
use Rattle.pass_core.proofs.state.State.forget.Goals as goal

pub returns-in_default-clause-unused : goal.returns-in_default-clause-unused
returns-in_default-clause-unused c = λ parents.
    made_one c.in_ok-table.field-0 c.parents.result.now c.args.self.now.frame.parents (c.in_ok-table.ensures.some c.workers-workers.ensures.some) c.parents.ensures c.in_default.is parents

pub returns-clause-unused : goal.returns-clause-unused
returns-clause-unused c = λ parents.
    unused_by c.args.self.now.frame c.parents.result.now c.in_ok-table.field-0 c.in-Some.table c.parents.ensures c.in-Some.is c.in_ok-table.ensures.fits
