use Rattle.cut_banks.proofs.Places.{cleared}
use Rattle.cut_banks.proofs.bank.Bank.clear.Goals as goal

pub invariant_of-self : goal.invariant_of-self
invariant_of-self c = cleared c.self.inside.pools.items c.self.inside.numbers.items c.args.node c.empty.result c.self.invariant c.empty.ensures
