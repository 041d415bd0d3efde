use Rattle.frac128.proofs.ParseLemmas.{none_where, ten_wide}
use Rattle.frac128.proofs.digits.power_of_ten.Goals as goal

pub returns-then-k-gt38 : goal.returns-then-k-gt38
returns-then-k-gt38 c = none_where _ _ (ten_wide c.args.k c.if-k-gt38.true)
