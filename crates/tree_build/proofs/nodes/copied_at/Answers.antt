use Rattle.std.proofs.Common.{◌≡◌, ◌∙◌, ap₂, sym, subst, List}
use Rattle.std.specs.Result.{IfOk}
use Rattle.rationals.specs.Sparse.{Entry}
use Rattle.tree_build.specs.declared.parts.RowValues.{RowValues}
use Rattle.tree_build.specs.Values.{Values, values_content}
use Rattle.tree_build.proofs.NodeLemmas.{content_at, content_past}
use Rattle.tree_build.proofs.nodes.copied_at.Goals as goal

pub returns-then-place-all : goal.returns-then-place-all
returns-then-place-all c =
    let P : Values → Type 0 = λ v. IfOk c.copied.result (λ copy. values_content copy ≡ v) in
    subst P (sym (content_at c.args.all.now c.args.place c.index-all-place.result c.if-place-all.true c.index-all-place.is)) c.copied.ensures

pub returns-else-place-all : goal.returns-else-place-all
returns-else-place-all c =
    ap₂ (λ (cost : List Entry) (rows : List RowValues). let v : Values = record { cost = cost; rows = rows } in v) c.empty-cost.ensures c.new-rows.ensures.items
    ∙ sym (content_past c.args.all.now c.args.place c.if-place-all.false)
