use Rattle.std.proofs.Common.{◌<◌, false, length, get_or, arith, ap, ◌∙◌}
use Rattle.pass_table.specs.Rounds.{Round}
use Rattle.pass_table.proofs.RoundLemmas.{either_long}
use Rattle.std.proofs.lemmas.List.{get_or_default}
use Rattle.pass_table.proofs.rounds.Rounds.is_waiting.Goals as goal

pub index-requires : goal.index-requires
index-requires c = omega (arith, c.requires, ap (λ (r : Round). length r.flags) c.self.view_is, either_long c.self.inside.coming c.self.inside.waiting c.self.invariant.long, c.self.invariant.waits_long)

pub returns : goal.returns
returns c =
    let within : c.args.number < length c.self.inside.waits.items = omega (arith, c.requires, ap (λ (r : Round). length r.flags) c.self.view_is, either_long c.self.inside.coming c.self.inside.waiting c.self.invariant.long, c.self.invariant.waits_long) in
    c.index.ensures ∙ get_or_default c.self.inside.waits.items c.args.number _ false within ∙ ap (λ (r : Round). get_or r.waits c.args.number false) c.self.view_is
