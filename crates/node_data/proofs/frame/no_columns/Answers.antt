use Rattle.std.proofs.Common.{◌∙◌, List, ap, [], ◌∷◌, ◌++◌}
use Rattle.std.proofs.lemmas.List.{replicate_more}
use Rattle.cut_defs.specs.declared.datum.ColumnBounds.{ColumnBounds}
use Rattle.node_data.specs.Frames.{stage_lists}
use Rattle.node_data.proofs.FrameLemmas.{stages_push}
use Rattle.node_data.proofs.frame.no_columns.Goals as goal

pub loop-stage-preserved : goal.loop-stage-preserved
loop-stage-preserved c =
    ap stage_lists c.in_ok-push.ensures.items ∙ stages_push c.loop-stage.all.items _
    ∙ ap (λ (columns : List ColumnBounds). stage_lists c.loop-stage.all.items ++ columns ∷ []) c.new.ensures.items
    ∙ ap (λ (all : List (List ColumnBounds)). all ++ [] ∷ []) c.loop-stage.invariant ∙ replicate_more c.loop-stage._stage []
