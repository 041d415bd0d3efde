use Rattle.std.proofs.Common.{◌≡◌, List, Bool, false, length, replicate, sym, ap, ◌∙◌}
use Rattle.std.proofs.lemmas.List.{with_items_is}
use Rattle.pass_table.specs.Rounds.{Round, either}
use Rattle.pass_table.proofs.RoundLemmas.{either_none, either_long, parts_by}
use Rattle.pass_table.proofs.rounds.Rounds.clear.Goals as goal

pub returns : goal.returns
returns c =
    let cs : List Bool = c.self.inside.coming in
    let bs : List Bool = c.self.inside.waiting in
    let long : length cs ≡ length c.args.self.now.flags = sym (either_long cs bs c.self.invariant.long) ∙ ap (λ (r : Round). length r.flags) c.self.view_is in
    parts_by _ _ _ _ _ _ (ap (λ x. either x c.clear-2.new.self) c.clear.ensures
    ∙ ap (λ x. either (replicate (length cs) false) x) (c.clear-2.ensures ∙ ap (λ n. replicate n false) c.self.invariant.long)
    ∙ either_none (length cs) ∙ ap (λ n. replicate n false) long)
    (with_items_is c.self.inside.met c.fill.new.self (c.fill.ensures.len ∙ c.as_mut_slice.ensures.len) ∙ c.fill.ensures.after (λ y e. e)
    ∙ ap (λ n. replicate n false) (ap length c.as_mut_slice.ensures.value ∙ c.self.invariant.met_long ∙ long))
    (with_items_is c.self.inside.waits c.fill-2.new.self (c.fill-2.ensures.len ∙ c.as_mut_slice-2.ensures.len) ∙ c.fill-2.ensures.after (λ y e. e)
    ∙ ap (λ n. replicate n false) (ap length c.as_mut_slice-2.ensures.value ∙ c.self.invariant.waits_long ∙ long))
