use Rattle.std.proofs.Common.{◌≡◌, ap, length, map, arith, ◌∙◌}
use Rattle.scen_tree.specs.Trees.{position_of}
use Rattle.scen_tree.proofs.ChildLemmas.{positions_length}
use Rattle.scen_tree.proofs.tree.Tree.of.Goals as goal

pub node_chances-requires : goal.node_chances-requires
node_chances-requires c =
    let same = ap length (c.deref-2.ensures.value ∙ c.in_ok-positions.ensures) ∙ positions_length c.deref.result.now ∙ ap length c.deref.ensures.value in
    omega (arith, same)

pub children_of-requires : goal.children_of-requires
children_of-requires c =
    let same = ap length (c.deref-4.ensures.value ∙ c.in_ok-positions.ensures) ∙ positions_length c.deref.result.now ∙ ap length c.deref.ensures.value in
    omega (arith, same)
