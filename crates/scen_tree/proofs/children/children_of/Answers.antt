use Rattle.std.proofs.Common.{◌≡◌, ◌∙◌, ap, sym, subst, suc, drop, get_or, ◌+◌, length, arith, add-one, drop_of_length-le}
use Rattle.std.proofs.lemmas.List.{at_drop_more}
use Rattle.scen_tree.specs.Trees.{lists, children_from}
use Rattle.scen_tree.specs.declared.position.Position.TheVariants.{Dropped}
use Rattle.scen_tree.proofs.ChildLemmas.{finished, children_begin, children_more, children_end}
use Rattle.scen_tree.proofs.children.children_of.Goals as goal

pub loop-node-init : goal.loop-node-init
loop-node-init c = ap (finished c.args.positions.now 0 0) c.in_ok-all.ensures ∙ children_begin c.args.positions.now 0 c.args.positions.now

pub loop-node-preserved : goal.loop-node-preserved
loop-node-preserved c =
    let node = c.loop-node.node in
    let positions = c.args.positions.now in
    ap (λ n. finished (drop (node + 1) positions) n 0 (lists c.add_child.new.all.items)) (add-one node)
    ∙ ap (finished (drop (node + 1) positions) (suc node) 0) c.in_ok-add_child.ensures
    ∙ sym (children_more (get_or positions node Dropped) (drop (node + 1) positions) node 0 (lists c.loop-node.all.items))
    ∙ sym (at_drop_more (λ rest. finished rest node 0 (lists c.loop-node.all.items)) positions node Dropped c.loop-node-test.true)
    ∙ c.loop-node.invariant

pub returns : goal.returns
returns c =
    sym (children_end c.loop-node.node 0 (lists c.loop-node.all.items))
    ∙ subst (λ rest. finished rest c.loop-node.node 0 (lists c.loop-node.all.items) ≡ children_from c.args.positions.now 0 c.args.positions.now)
    (drop_of_length-le c.args.positions.now c.loop-node-test.false) c.loop-node.invariant
