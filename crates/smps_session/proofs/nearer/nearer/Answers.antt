use Rattle.std.proofs.Common.{sym, ◌∙◌}
use Rattle.smps_session.proofs.WholeLemmas.{closed_answer, near_answer}
use Rattle.smps_session.proofs.nearer.nearer.Goals as goal

pub returns-then-isnt_open : goal.returns-then-isnt_open
returns-then-isnt_open c =
    closed_answer c.args.program.now c.args.budget c.args.own.now c.in_ok-tested.tested c.in_ok-tested.ensures
    (sym c.isnt_open.ensures ∙ c.if-isnt_open.true)

pub returns-then-is_nearer : goal.returns-then-is_nearer
returns-then-is_nearer c =
    near_answer c.args.program.now c.args.budget c.args.own.now c.in_ok-tested.tested c.with_finding.result c.requires c.in_ok-tested.ensures
    (sym c.isnt_open.ensures ∙ c.if-isnt_open.false) (c.is_nearer.ensures.left_open c.if-is_nearer.true)
    (c.is_nearer.ensures.keeps c.if-is_nearer.true) c.with_finding.ensures
