use Rattle.std.proofs.Common.{List, Bool, true, false, length, arith, ap, ◌∙◌}
use Rattle.std.proofs.Math.ListN.{set}
use Rattle.pass_table.specs.Rounds.{Round, either}
use Rattle.pass_table.proofs.RoundLemmas.{either_long, either_held, parts_by}
use Rattle.pass_table.proofs.rounds.Rounds.hold.Goals as goal

pub index_mut-requires : goal.index_mut-requires
index_mut-requires c = omega (arith, c.requires, ap (λ (r : Round). length r.flags) c.self.view_is, either_long c.self.inside.coming c.self.inside.waiting c.self.invariant.long, c.self.invariant.met_long)

pub index_mut-requires-2 : goal.index_mut-requires-2
index_mut-requires-2 c = omega (arith, c.requires, ap (λ (r : Round). length r.flags) c.self.view_is, either_long c.self.inside.coming c.self.inside.waiting c.self.invariant.long, c.self.invariant.waits_long)

pub remove-requires : goal.remove-requires
remove-requires c = omega (arith, c.requires, ap (λ (r : Round). length r.flags) c.self.view_is, either_long c.self.inside.coming c.self.inside.waiting c.self.invariant.long)

pub insert-requires : goal.insert-requires
insert-requires c = omega (arith, c.requires, ap (λ (r : Round). length r.flags) c.self.view_is, either_long c.self.inside.coming c.self.inside.waiting c.self.invariant.long, c.self.invariant.long)

pub returns : goal.returns
returns c =
    let cs : List Bool = c.self.inside.coming in
    let bs : List Bool = c.self.inside.waiting in
    parts_by _ _ _ _ _ _ (ap (λ x. either x c.insert.new.self) c.remove.ensures ∙ ap (λ x. either (set cs c.args.number false) x) c.insert.ensures
    ∙ either_held cs bs c.args.number c.self.invariant.long ∙ ap (λ (r : Round). set r.flags c.args.number true) c.self.view_is)
    (ap (λ (r : Round). set r.met c.args.number true) c.self.view_is) (ap (λ (r : Round). set r.waits c.args.number true) c.self.view_is)
