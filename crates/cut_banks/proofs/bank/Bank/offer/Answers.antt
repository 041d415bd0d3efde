use Rattle.cut_pool.specs.Pool.{offer_of, after_offer}
use Rattle.cut_banks.specs.Pools.{may_take}
use Rattle.cut_banks.proofs.Nodes.{offer_keeps}
use Rattle.cut_banks.proofs.Places.{banked_again}
use Rattle.cut_banks.proofs.bank.Bank.offer.Goals as goal

pub invariant_of-self-2 : goal.invariant_of-self-2
invariant_of-self-2 c =
    banked_again (may_take c.args.cut) (λ p. after_offer p c.args.cut (offer_of p c.args.cut c.args.trial.now)) c.node-node.result c.self.inside.pools.items c.deref_mut.result.now c.offer_at.new.pools c.deref.result.now
    c.self.inside.numbers.items c.deref_mut-2.result.now c.note.new.numbers c.self.inside.pools.len c.self.inside.numbers.len
    (offer_keeps c.args.cut (λ p. offer_of p c.args.cut c.args.trial.now)) c.self.invariant c.deref_mut.ensures.value c.deref_mut.ensures.len c.in_ok-offer.ensures.ok
    c.deref.ensures.value c.deref_mut-2.ensures.value c.deref_mut-2.ensures.len c.note.ensures
