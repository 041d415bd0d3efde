use Rattle.cut_banks.specs.Pools.{may_change, swept_for}
use Rattle.cut_banks.proofs.Nodes.{sweep_keeps}
use Rattle.cut_banks.proofs.Places.{banked_again}
use Rattle.cut_banks.proofs.bank.Bank.sweep.Goals as goal

pub invariant_of-self-2 : goal.invariant_of-self-2
invariant_of-self-2 c =
    banked_again may_change (swept_for c.args.due.now) c.args.due.now.pool c.self.inside.pools.items c.deref_mut.result.now c.sweep_at.new.pools c.deref.result.now
    c.self.inside.numbers.items c.deref_mut-2.result.now c.note.new.numbers c.self.inside.pools.len c.self.inside.numbers.len
    (sweep_keeps c.args.due.now) c.self.invariant c.deref_mut.ensures.value c.deref_mut.ensures.len c.in_ok-is_done.ensures.ok
    c.deref.ensures.value c.deref_mut-2.ensures.value c.deref_mut-2.ensures.len c.note.ensures
