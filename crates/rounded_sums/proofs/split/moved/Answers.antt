use Rattle.rounded_sums.proofs.SplitLemmas.{moved_is}
use Rattle.rounded_sums.proofs.split.moved.Goals as goal

pub returns-in-Some-exact_sum : goal.returns-in-Some-exact_sum
returns-in-Some-exact_sum c = moved_is c.args.from c.args.to c.args.share c.in-Some.rest c.in-Some-exact_sum.more c.in-Some.ensures c.in-Some-exact_sum.ensures
