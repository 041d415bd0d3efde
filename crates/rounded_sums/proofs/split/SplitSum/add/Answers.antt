use Rattle.rationals.specs.Rational.{◌+ℚ◌}
use Rattle.rounded_sums.proofs.SplitLemmas.{all_put}
use Rattle.rounded_sums.proofs.split.SplitSum.add.Goals as goal

pub returns-then-is_zero : goal.returns-then-is_zero
returns-then-is_zero c =
    all_put c.spread-sum.result.0 c.spread-sum.result.1 c.spread-shared.result.0 c.spread-shared.result.1 (c.args.self.now +ℚ c.args.number)
    c.spread-sum.ensures c.spread-shared.ensures (c.is_zero.ensures.0 c.if-is_zero.true)
