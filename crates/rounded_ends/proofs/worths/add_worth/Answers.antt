use Rattle.rounded_ends.proofs.RunLemmas.{worth_step}
use Rattle.rounded_ends.proofs.worths.add_worth.Goals as goal

pub returns-in-Some : goal.returns-in-Some
returns-in-Some c =
    worth_step c.args.side c.args.low c.args.high c.args.multiplier c.args.sum c.in-Some.end c.used_end.result c.add_product.result c.used_end.ensures c.in-Some.is c.add_product.ensures
