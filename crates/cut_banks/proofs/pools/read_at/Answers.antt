use Rattle.std.proofs.Common.{map, refl, ap, ◌∙◌}
use Rattle.cut_pool.specs.Held.{Held}
use Rattle.cut_banks.specs.Pools.{cuts_of}
use Rattle.cut_banks.proofs.ReadPools.{no_cuts_read, no_number_read, cuts_added, number_added}
use Rattle.cut_banks.proofs.pools.read_at.Goals as goal

pub returns-then-place-pools-clause-cuts : goal.returns-then-place-pools-clause-cuts
returns-then-place-pools-clause-cuts c = no_cuts_read c.args.pools.now c.args.child (map cuts_of c.args.read.now.children.items) c.if-place-pools.true

pub returns-then-place-pools-clause-numbers : goal.returns-then-place-pools-clause-numbers
returns-then-place-pools-clause-numbers c = no_number_read c.args.pools.now c.args.child c.args.read.now.readings.items c.if-place-pools.true

pub returns-clause-cuts : goal.returns-clause-cuts
returns-clause-cuts c =
    cuts_added c.args.pools.now c.args.child c.index-pools-place.result c.args.read.now.children.items c.push.new.self.items
    record { child = c.args.child; cuts = c.in_ok-copied.copied.cuts } c.if-place-pools.false c.in_ok-push.ensures.items refl
    (c.in_ok-copied.ensures.cuts ∙ ap (λ (p : Held). p.cuts) c.index-pools-place.is)

pub returns-clause-numbers : goal.returns-clause-numbers
returns-clause-numbers c =
    number_added c.args.pools.now c.args.child c.index-pools-place.result c.args.read.now.readings.items c.push-2.new.self.items
    c.in_ok-copied.copied.number c.if-place-pools.false c.in_ok-push-2.ensures.items
    (c.in_ok-copied.ensures.number ∙ ap (λ (p : Held). p.number) c.index-pools-place.is)
