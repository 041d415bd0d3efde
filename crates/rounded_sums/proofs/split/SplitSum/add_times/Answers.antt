use Rattle.std.proofs.Common.{subst}
use Rattle.rounded_sums.specs.declared.side.Side.{Side}
use Rattle.rounded_sums.specs.Sides.{Beside}
use Rattle.rounded_sums.proofs.SplitLemmas.{then_times}
use Rattle.rounded_sums.proofs.split.SplitSum.add_times.Goals as goal

pub returns-in-Some : goal.returns-in-Some
returns-in-Some c =
    then_times c.args.side c.args.self c.args.factor c.args.times c.in-Some.number c.add_product.result
    (subst (λ (own : Side). Beside own c.args.times c.in-Some.number) c.factor_side-own.ensures c.in-Some.ensures) c.add_product.ensures

pub returns-in-Some-together : goal.returns-in-Some-together
returns-in-Some-together c =
    then_times c.args.side c.args.self c.args.factor c.args.times c.in-Some-together.number c.add_rounded.result
    (subst (λ (own : Side). Beside own c.args.times c.in-Some-together.number) c.factor_side-own.ensures c.in-Some-together.ensures) c.add_rounded.ensures
