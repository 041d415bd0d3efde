use Rattle.std.proofs.Common.{arith, sym, ap, [], ◌∙◌}
use Rattle.std.proofs.lemmas.List.{get_or_past}
use Rattle.scen_tree.specs.Trees.{lists}
use Rattle.scen_tree.proofs.ChildLemmas.{lists_length, lists_at}
use Rattle.node_data.specs.Frames.{Frame, children_in}
use Rattle.node_data.proofs.frame.Frame.children.Goals as goal

pub returns-then-place-len : goal.returns-then-place-len
returns-then-place-len c =
    let all = c.self.inside.children in
    c.deref.ensures.value
    ∙ sym (lists_at all.items c.args.node c.index.result.now (omega (arith, c.len.ensures, all.ok.0)) c.index.ensures)
    ∙ ap (λ (frame : Frame). children_in frame c.args.node) c.self.view_is

pub returns-else-place-len : goal.returns-else-place-len
returns-else-place-len c =
    let all = c.self.inside.children in
    sym (get_or_past (lists all.items) c.args.node [] (omega (arith, lists_length all.items, c.len.ensures, all.ok.0)))
    ∙ ap (λ (frame : Frame). children_in frame c.args.node) c.self.view_is
