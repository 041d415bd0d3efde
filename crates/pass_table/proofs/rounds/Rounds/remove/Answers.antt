use Rattle.std.proofs.Common.{List, Bool, false, length, arith, ap, ◌∙◌}
use Rattle.std.proofs.Math.ListN.{set}
use Rattle.pass_table.specs.Rounds.{Round, either}
use Rattle.pass_table.proofs.RoundLemmas.{either_off, either_long, parts_by}
use Rattle.pass_table.proofs.rounds.Rounds.remove.Goals as goal

pub remove-requires : goal.remove-requires
remove-requires c = omega (arith, c.requires, ap (λ (r : Round). length r.flags) c.self.view_is, either_long c.self.inside.coming c.self.inside.waiting c.self.invariant.long)

pub remove-requires-2 : goal.remove-requires-2
remove-requires-2 c = omega (arith, c.requires, ap (λ (r : Round). length r.flags) c.self.view_is, either_long c.self.inside.coming c.self.inside.waiting c.self.invariant.long, c.self.invariant.long)

pub returns : goal.returns
returns c =
    let cs : List Bool = c.self.inside.coming in
    let bs : List Bool = c.self.inside.waiting in
    parts_by _ _ _ _ _ _ (ap (λ x. either x c.remove-2.new.self) c.remove.ensures ∙ ap (λ x. either (set cs c.args.number false) x) c.remove-2.ensures
    ∙ either_off cs bs c.args.number c.self.invariant.long ∙ ap (λ (r : Round). set r.flags c.args.number false) c.self.view_is)
    (ap (λ (r : Round). r.met) c.self.view_is) (ap (λ (r : Round). r.waits) c.self.view_is)
