use Rattle.rounded_sums.proofs.SplitLemmas.{swapped}
use Rattle.rounded_sums.proofs.split.settled.Goals as goal

pub returns-in-Some : goal.returns-in-Some
returns-in-Some c = swapped _ _ c.args.part c.args.whole c.in-Some.ensures
