use Rattle.std.proofs.Common.{List, Bool, true, length, arith, ap, ◌∙◌}
use Rattle.std.proofs.Math.ListN.{set}
use Rattle.pass_table.specs.Rounds.{Round, either}
use Rattle.pass_table.proofs.RoundLemmas.{either_first, either_second, either_long, parts_by}
use Rattle.pass_table.proofs.rounds.Rounds.insert.Goals as goal

pub index_mut-requires : goal.index_mut-requires
index_mut-requires c = omega (arith, c.requires, ap (λ (r : Round). length r.flags) c.self.view_is, either_long c.self.inside.coming c.self.inside.waiting c.self.invariant.long, c.self.invariant.met_long)

pub index-requires : goal.index-requires
index-requires c = omega (arith, c.requires, ap (λ (r : Round). length r.flags) c.self.view_is, either_long c.self.inside.coming c.self.inside.waiting c.self.invariant.long, c.self.invariant.waits_long)

pub insert-requires : goal.insert-requires
insert-requires c = omega (arith, c.requires, ap (λ (r : Round). length r.flags) c.self.view_is, either_long c.self.inside.coming c.self.inside.waiting c.self.invariant.long, c.self.invariant.long)

pub insert-requires-else-index : goal.insert-requires-else-index
insert-requires-else-index c = omega (arith, c.requires, ap (λ (r : Round). length r.flags) c.self.view_is, either_long c.self.inside.coming c.self.inside.waiting c.self.invariant.long)

pub returns-then-index : goal.returns-then-index
returns-then-index c =
    let cs : List Bool = c.self.inside.coming in
    let bs : List Bool = c.self.inside.waiting in
    parts_by _ _ _ _ _ _ (ap (λ x. either cs x) c.insert.ensures ∙ either_second cs bs c.args.number c.self.invariant.long
    ∙ ap (λ (r : Round). set r.flags c.args.number true) c.self.view_is) (ap (λ (r : Round). set r.met c.args.number true) c.self.view_is) (ap (λ (r : Round). r.waits) c.self.view_is)

pub returns-else-index : goal.returns-else-index
returns-else-index c =
    let cs : List Bool = c.self.inside.coming in
    let bs : List Bool = c.self.inside.waiting in
    parts_by _ _ _ _ _ _ (ap (λ x. either x bs) c.insert-else-index.ensures ∙ either_first cs bs c.args.number c.self.invariant.long
    ∙ ap (λ (r : Round). set r.flags c.args.number true) c.self.view_is) (ap (λ (r : Round). set r.met c.args.number true) c.self.view_is) (ap (λ (r : Round). r.waits) c.self.view_is)
