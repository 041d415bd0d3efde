use Rattle.std.proofs.Common.{◌∙◌, ap, sym}
use Rattle.time_defs.specs.Periods.{stages}
use Rattle.tree_build.specs.Values.{Values, values_content, with_sets}
use Rattle.tree_build.proofs.ChoiceLemmas.{with_append}
use Rattle.tree_build.proofs.values.set_all.Goals as goal

pub runs-preserved : goal.runs-preserved
runs-preserved c =
    let core = c.args.core.now in
    let p = stages c.args.periods.now in
    let stage = c.args.stage in
    let old = values_content c.runs.values in
    let front = c.split_at.result.0.now in
    let behind = c.split_at.result.1.now in
    ap (λ (d : Values). with_sets core p stage d behind) c.in_ok-set_backwards.ensures
    ∙ sym (with_append core p stage old front behind)
    ∙ ap (with_sets core p stage old) (sym c.split_at.ensures.by_index.0) ∙ c.runs.invariant
