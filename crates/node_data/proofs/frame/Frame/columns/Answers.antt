use Rattle.std.proofs.Common.{arith, sym, ap, [], ◌∙◌}
use Rattle.std.proofs.lemmas.List.{get_or_past}
use Rattle.scen_tree.specs.Trees.{lists}
use Rattle.node_data.specs.Frames.{Frame, stage_lists, columns_in}
use Rattle.node_data.proofs.FrameLemmas.{columns_read, number_at, stages_at, stages_length}
use Rattle.node_data.proofs.frame.Frame.columns.Goals as goal

pub returns-then-stage-len : goal.returns-then-stage-len
returns-then-stage-len c =
    let f = c.self.inside in
    let frame : Frame = record { parents = f.parents.items; children = lists f.children.items; stages = f.stages.items; columns = stage_lists f.columns.items } in
    let stage = c.index.result.now in
    columns_read frame c.args.node stage c.deref.result.now
    (omega (arith, c.len.ensures, f.stages.ok.0))
    (number_at f.stages.items c.args.node stage (omega (arith, c.len.ensures, f.stages.ok.0)) c.index.ensures)
    (stages_at f.columns.items stage c.index-then-stage-len.result.now (omega (arith, c.len-2.ensures, f.columns.ok.0)) c.index-then-stage-len.ensures ∙ sym c.deref.ensures.value)
    ∙ ap (λ (frame : Frame). columns_in frame c.args.node) c.self.view_is

pub returns-else-stage-len : goal.returns-else-stage-len
returns-else-stage-len c =
    let f = c.self.inside in
    let frame : Frame = record { parents = f.parents.items; children = lists f.children.items; stages = f.stages.items; columns = stage_lists f.columns.items } in
    let stage = c.index.result.now in
    columns_read frame c.args.node stage []
    (omega (arith, c.len.ensures, f.stages.ok.0))
    (number_at f.stages.items c.args.node stage (omega (arith, c.len.ensures, f.stages.ok.0)) c.index.ensures)
    (get_or_past (stage_lists f.columns.items) stage [] (omega (arith, stages_length f.columns.items, c.len-2.ensures, f.columns.ok.0)))
    ∙ ap (λ (frame : Frame). columns_in frame c.args.node) c.self.view_is
