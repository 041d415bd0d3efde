use Rattle.std.proofs.Common.{subst, sym}
use Rattle.rationals.specs.Rational.{◌+ℚ◌, ◌*ℚ◌}
use Rattle.rounded_sums.specs.Sides.{Beside}
use Rattle.rounded_sums.proofs.SplitLemmas.{then_step}
use Rattle.rounded_sums.proofs.split.SplitSum.add_rounded.Goals as goal

pub returns-in-Some-add_product : goal.returns-in-Some-add_product
returns-in-Some-add_product c =
    let product = c.args.factor *ℚ c.args.times in
    subst (Beside c.args.side (c.args.self.now +ℚ product)) (sym c.of.ensures)
    (then_step c.args.side c.args.self.now c.in-Some.sum product c.in-Some-add_product.next c.in-Some.ensures c.in-Some-add_product.ensures.beside)
