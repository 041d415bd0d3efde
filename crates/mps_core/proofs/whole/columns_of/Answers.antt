-- Closing the last column changes no name or bound.
use Rattle.std.proofs.Common.{◌∙◌, ap}
use Rattle.core_defs.specs.Filed.{Filed}
use Rattle.core_defs.specs.Finished.{column_defs}
use Rattle.mps_core.specs.View.{filed}
use Rattle.mps_core.proofs.WholeLemmas.{same_column_defs}
use Rattle.mps_core.proofs.whole.columns_of.Goals as goal

pub returns-clause-columns : goal.returns-clause-columns
returns-clause-columns c =
    let f = filed c.args.draft.now in
    rw c.replace-parts.ensures.value at c.in_ok-columns.ensures ∙ same_column_defs f (filed c.close_column.new.self) c.in_ok-close_column.ensures.rest _
    ∙ ap (λ (g : Filed). column_defs f 0 g.parts) c.in_ok-close_column.ensures.closed

pub returns-clause-rest : goal.returns-clause-rest
returns-clause-rest c = ap (λ (g : Filed). record g { parts = c.replace-parts.new.dest.items; free_rhs = c.new-2.result.items }) c.in_ok-close_column.ensures.rest
