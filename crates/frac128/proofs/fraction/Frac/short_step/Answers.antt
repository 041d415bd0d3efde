use Rattle.std.proofs.Common.{sym, subst}
use Rattle.ratio128.specs.Ratio.{Fits}
use Rattle.frac128.proofs.Bridge.{step_found, step_value}
use Rattle.frac128.proofs.fraction.Frac.short_step.Goals as goal

pub returns : goal.returns
returns c =
    let p = rw (c.parts.ensures, c.parts-2.ensures, c.parts-3.ensures) at c.short_step.ensures.is in
    rw (c.from_parts.ensures, p, ← step_value c.args.self c.args.factor c.args.times) (sym (step_found c.args.self c.args.factor c.args.times (subst Fits p c.short_step.ensures.fits)))
