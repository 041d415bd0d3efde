use Rattle.cut_pool.specs.Pool.{with_cut}
use Rattle.cut_banks.specs.Pools.{may_put}
use Rattle.cut_banks.proofs.Nodes.{put_keeps}
use Rattle.cut_banks.proofs.Places.{banked_again}
use Rattle.cut_banks.proofs.bank.Bank.ground.Goals as goal

pub invariant_of-self-2 : goal.invariant_of-self-2
invariant_of-self-2 c =
    banked_again (may_put c.args.cut) (λ p. with_cut p c.args.cut) c.node-node.result c.self.inside.pools.items c.deref_mut.result.now c.put_at.new.pools c.deref.result.now
    c.self.inside.numbers.items c.deref_mut-2.result.now c.note.new.numbers c.self.inside.pools.len c.self.inside.numbers.len
    (put_keeps c.args.cut) c.self.invariant c.deref_mut.ensures.value c.deref_mut.ensures.len c.in_ok-is_done.ensures.ok
    c.deref.ensures.value c.deref_mut-2.ensures.value c.deref_mut-2.ensures.len c.note.ensures
