use Rattle.std.proofs.Common.{◌∙◌, ap, sym, get_or}
use Rattle.tree_build.specs.declared.numbering.Keys.{Keys}
use Rattle.tree_build.proofs.RangeLemmas.{keys_at, keys_past, past_end}
use Rattle.tree_build.proofs.branches.key_at.Goals as goal

pub returns-then-stage-row : goal.returns-then-stage-row
returns-then-stage-row c =
    ap (λ row. get_or row c.args.stage 0) (c.deref-row.ensures.value ∙ ap (λ (r : Keys). r.by_stage.items) (sym c.index-rows-number.is) ∙ sym (keys_at c.args.rows.now c.args.number c.index-rows-number.result c.if-number-rows.true c.index-rows-number.is))

pub returns-else-stage-row : goal.returns-else-stage-row
returns-else-stage-row c =
    past_end c.deref-row.result.now c.args.stage c.if-stage-row.false
    ∙ ap (λ row. get_or row c.args.stage 0) (c.deref-row.ensures.value ∙ ap (λ (r : Keys). r.by_stage.items) (sym c.index-rows-number.is) ∙ sym (keys_at c.args.rows.now c.args.number c.index-rows-number.result c.if-number-rows.true c.index-rows-number.is))

pub returns-else-number-rows : goal.returns-else-number-rows
returns-else-number-rows c = sym (ap (λ row. get_or row c.args.stage 0) (keys_past c.args.rows.now c.args.number c.if-number-rows.false))
