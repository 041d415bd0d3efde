use Rattle.std.proofs.Common.{ap, ◌∙◌}
use Rattle.rationals.specs.Rational.{◌-ℚ◌, ◌*ℚ◌}
use Rattle.rationals.specs.Passes.{fitted, named_by, too_wide}
use Rattle.rationals.specs.declared.Op.TheVariants.{Sub}
use Rattle.frac128.proofs.Bridge.{less_value, walk_kept, walk_lost}
use Rattle.frac128.proofs.fraction.Frac.less_product.Goals as goal

pub returns-in-Some : goal.returns-in-Some
returns-in-Some c =
    let e = rw c.neg.ensures at c.in-Some.ensures in
    let o = named_by (too_wide (c.args.factor *ℚ c.args.times)) Sub c.args.self c.args.factor c.args.times in
    walk_kept (c.args.self -ℚ c.args.factor *ℚ c.args.times) c.in-Some.difference o (e ∙ ap fitted (less_value c.args.self c.args.factor c.args.times))

pub returns-in-None : goal.returns-in-None
returns-in-None c =
    let e = rw c.neg.ensures at c.in-None.ensures in
    let o = named_by (too_wide (c.args.factor *ℚ c.args.times)) Sub c.args.self c.args.factor c.args.times in
    c.passed.ensures ∙ walk_lost (c.args.self -ℚ c.args.factor *ℚ c.args.times) o (e ∙ ap fitted (less_value c.args.self c.args.factor c.args.times))
