use Rattle.std.proofs.Common.{sym}
use Rattle.frac128.proofs.Bridge.{step_value, step_found, step_lost}
use Rattle.frac128.proofs.fraction.Frac.wide_step.Goals as goal

pub returns-in-Ok : goal.returns-in-Ok
returns-in-Ok c =
    let e = rw (c.parts.ensures, c.parts-2.ensures, c.parts-3.ensures) at c.in-Ok.ensures in
    rw (c.from_parts.ensures, e.1, ← step_value c.args.self c.args.factor c.args.times) (sym (step_found c.args.self c.args.factor c.args.times e.0))

pub returns-in-Err : goal.returns-in-Err
returns-in-Err c =
    let n = rw (c.parts.ensures, c.parts-2.ensures, c.parts-3.ensures) at c.in-Err.ensures in
    sym (step_lost c.args.self c.args.factor c.args.times n)
