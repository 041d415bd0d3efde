use Rattle.std.proofs.Common.{ap, ◌∙◌}
use Rattle.slack_form.specs.Standard.{behind, equations, turned_rights}
use Rattle.slack_form.proofs.Program.{parts_are_program}
use Rattle.slack_form.proofs.slacks.standard.Goals as goal

pub new-requires : goal.new-requires
new-requires c =
    parts_are_program c.args.limits.now c.behind-columns.result c.in_ok-rows.rows.items c.in_ok-right.right.items c.in_ok-cost.cost c.requires
    (c.behind-columns.ensures ∙ ap (behind c.args.limits.now.columns) c.deref.ensures.value)
    (c.in_ok-rows.ensures ∙ ap (equations c.args.limits.now.columns) c.deref-2.ensures.value)
    (c.in_ok-right.ensures ∙ ap turned_rights c.deref-3.ensures.value)
    c.in_ok-cost.ensures.equal
