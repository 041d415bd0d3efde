use Rattle.std.proofs.Common.{◌≡◌, length, rules}
use Rattle.cut_banks.proofs.Nodes.{banked_pushed}
use Rattle.cut_banks.proofs.bank.Bank.add.Goals as goal

pub invariant_of-self-in-Ok : goal.invariant_of-self-in-Ok
invariant_of-self-in-Ok c =
    let next : c.args.node ≡ length c.self.inside.pools.items = first_of (cc, search rules) in
    banked_pushed c.self.inside.pools.items c.push-2.new.self.items c.self.inside.numbers.items c.push.new.self.items c.args.node c.empty.result c.self.invariant next
    c.in_ok-push.ensures.items c.in-Ok.ensures.items c.empty.ensures
