use Rattle.cut_sums.proofs.TallyLaws.{zero_plus}
use Rattle.cut_sums.proofs.tally.plus.Goals as goal

pub returns-then-is_zero-clause-sum : goal.returns-then-is_zero-clause-sum
returns-then-is_zero-clause-sum c = zero_plus c.args.number c.args.weight c.args.value c.in-Some.product c.over_one.result (c.is_zero.ensures.0 c.if-is_zero.true) c.in-Some.ensures c.over_one.ensures.same
