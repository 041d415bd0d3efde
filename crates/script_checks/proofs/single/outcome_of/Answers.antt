use Rattle.std.proofs.Common.{Ok, Err, refl}
use Rattle.script_checks.proofs.CheckLemmas.{checked, held_shown, judged_ok, judged_err}
use Rattle.script_checks.proofs.single.outcome_of.Goals as goal

pub returns-in-Ok : goal.returns-in-Ok
returns-in-Ok c = checked c.args.program.now c.args.report.now (record { number = c.args.report.now.number; outcome = Ok c.in-Ok.verdict })
    refl (judged_ok _ c.in-Ok.verdict c.in-Ok.ensures.exact) (held_shown c.in-Ok.verdict _ c.in-Ok.ensures.shown)

pub returns-in_ok-operation-in-Err : goal.returns-in_ok-operation-in-Err
returns-in_ok-operation-in-Err c = checked c.args.program.now c.args.report.now
    (record { number = c.args.report.now.number; outcome = Err c.in_ok-operation-in-Err.field-0 })
    refl (judged_err _ c.in-Err.halt _ c.in-Err.ensures.exact c.in_ok-operation-in-Err.ensures) (λ e. absurd (cc))
