use Rattle.rounded_sums.proofs.SideLemmas.{beside_trans}
use Rattle.rounded_sums.proofs.split.SplitSum.rounded_total.Goals as goal

pub returns-in-Some : goal.returns-in-Some
returns-in-Some c = beside_trans c.args.side c.args.self.now c.in-Some.total c.shown_end.result c.in-Some.ensures c.shown_end.ensures
