use Rattle.std.proofs.Common.{◌≡◌, ◌∙◌, length, ap, sym, rules}
use Rattle.tree_build.specs.Limits.{rows_in}
use Rattle.tree_build.proofs.NodeLemmas.{content_at, content_past}
use Rattle.tree_build.proofs.least.core_rows.Goals as goal

pub returns-then-stage-base : goal.returns-then-stage-base
returns-then-stage-base c =
    let long : c.len.result ≡ length c.index-base-stage.result.rows.items = search rules in
    long ∙ ap rows_in (sym (content_at c.args.base.now c.args.stage c.index-base-stage.result c.if-stage-base.true c.index-base-stage.is))

pub returns-else-stage-base : goal.returns-else-stage-base
returns-else-stage-base c = ap rows_in (sym (content_past c.args.base.now c.args.stage c.if-stage-base.false))
