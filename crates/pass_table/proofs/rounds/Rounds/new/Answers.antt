use Rattle.std.proofs.Common.{◌≡◌, false, replicate, ap, ◌∙◌}
use Rattle.pass_table.specs.Rounds.{either}
use Rattle.pass_table.proofs.RoundLemmas.{either_none, parts_by}
use Rattle.pass_table.proofs.rounds.Rounds.new.Goals as goal

pub returns : goal.returns
returns c =
    let met : c.in_ok-vec.field-0.items ≡ replicate c.args.bound false = c.in_ok-vec.ensures.items_if_clones_equal (λ y e. e) in
    let waits : c.in_ok-vec-2.field-0.items ≡ replicate c.args.bound false = c.in_ok-vec-2.ensures.items_if_clones_equal (λ y e. e) in
    parts_by _ _ _ _ _ _ (ap (λ x. either x c.in_ok-new-2.field-0) c.in_ok-new.ensures ∙ ap (λ x. either (replicate c.args.bound false) x) c.in_ok-new-2.ensures
    ∙ either_none c.args.bound) met waits
