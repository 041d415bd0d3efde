use Rattle.std.proofs.Common.{◌≡◌, arith, sym, ap, length, get_or, [], ◌∙◌}
use Rattle.scen_tree.specs.Trees.{Tree, lists}
use Rattle.scen_tree.proofs.ChildLemmas.{lists_length, lists_at}
use Rattle.scen_tree.proofs.tree.Tree.children.Goals as goal

pub index-requires : goal.index-requires
index-requires c =
    let same : length (lists c.self.inside.children.items) ≡ length c.args.self.now.children = ap (λ (t : Tree). length t.children) c.self.view_is in
    omega (arith, lists_length c.self.inside.children.items)

pub returns : goal.returns
returns c =
    let same : length (lists c.self.inside.children.items) ≡ length c.args.self.now.children = ap (λ (t : Tree). length t.children) c.self.view_is in
    c.deref.ensures.value
    ∙ sym (lists_at c.self.inside.children.items c.args.node c.index.result.now (omega (arith, lists_length c.self.inside.children.items)) c.index.ensures)
    ∙ ap (λ (t : Tree). get_or t.children c.args.node []) c.self.view_is
