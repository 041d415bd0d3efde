use Rattle.std.proofs.Math.ListN.{drop_of_length-le}
use Rattle.rationals.specs.Rational.{◌+ℚ◌}
use Rattle.rounded_sums.specs.Parts.{sum_of}
use Rattle.rounded_sums.proofs.SplitLemmas.{read_next, together_next, together_done}
use Rattle.rounded_sums.proofs.split.sum_with.Goals as goal

pub loop-part-preserved : goal.loop-part-preserved
loop-part-preserved c =
    together_next c.args.side (c.args.whole +ℚ sum_of c.args.parts.now) c.loop-part.sum c.in-Some.next _ c.args.parts.now _ c.loop-part.part-index
    (read_next c.args.parts.now c.loop-part.part-index c.part-item.result c.loop-part-test.true c.part-item.is) c.loop-part.invariant c.in-Some.ensures

pub returns : goal.returns
returns c = together_done c.args.side (c.args.whole +ℚ sum_of c.args.parts.now) c.loop-part.sum _ (drop_of_length-le c.args.parts.now c.loop-part-test.false) c.loop-part.invariant
