use Rattle.std.proofs.Common.{◌≡◌, sym, subst, ap, ◌∙◌}
use Rattle.std.specs.Prelude.{MatchOption}
use Rattle.tree_build.specs.Values.{Values}
use Rattle.tree_build.specs.Limits.{IsOverWith, counts_with, AreSmall}
use Rattle.tree_build.proofs.NodeLemmas.{content_at, content_past}
use Rattle.tree_build.proofs.LeastLemmas.{none_more}
use Rattle.tree_build.proofs.least.with_stage.Goals as goal

pub returns-then-stage-base : goal.returns-then-stage-base
returns-then-stage-base c =
    let P : Values → Type 0 = λ v. MatchOption c.with_node.result (IsOverWith c.args.counts v) (λ sum. (sum ≡ counts_with c.args.counts v) × AreSmall sum) in
    subst P (sym (content_at c.args.base.now c.args.stage c.index-base-stage.result c.if-stage-base.true c.index-base-stage.is)) c.with_node.ensures

pub returns-else-stage-base : goal.returns-else-stage-base
returns-else-stage-base c = (none_more c.args.counts ∙ ap (counts_with c.args.counts) (sym (content_past c.args.base.now c.args.stage c.if-stage-base.false)), c.requires)
