-- A position more, and none left.
use Rattle.std.proofs.Common.{◌≡◌, ◌∙◌, ◌+◌, ◌++◌, ◌∷◌, [], List, ap, sym, subst, drop, map, append_assoc, append-nil, drop_of_length-le}
use Rattle.scen_defs.specs.Program.{nodes_content}
use Rattle.scen_defs.proofs.NodeReads.{drop_read}
use Rattle.scen_tree.specs.declared.position.Position.{Position}
use Rattle.scen_tree.specs.Trees.{position_of}
use Rattle.edit_apply.proofs.positions.add_positions.Goals as goal

pub loop-place-preserved : goal.loop-place-preserved
loop-place-preserved c =
    let nodes = c.args.nodes.now in
    let all : List Position = c.loop-place.all.items in
    let rest : List Position = map position_of (nodes_content (drop (c.loop-place.place-index + 1) nodes)) in
    ap (λ (made : List Position). made ++ rest) c.in_ok-push.ensures.items
    ∙ append_assoc all (c.position_of.result ∷ []) rest
    ∙ ap (λ (one : Position). all ++ one ∷ rest) c.position_of.ensures
    ∙ sym (ap (λ left. all ++ map position_of (nodes_content left)) (drop_read nodes c.loop-place.place-index c.place-item.result c.loop-place-test.true c.place-item.is))
    ∙ c.loop-place.invariant

pub returns : goal.returns
returns c =
    let all : List Position = c.loop-place.all.items in
    sym (append-nil all)
    ∙ subst (λ left. all ++ map position_of (nodes_content left) ≡ c.args.all.now.items ++ map position_of (nodes_content c.args.nodes.now)) (drop_of_length-le c.args.nodes.now c.loop-place-test.false) c.loop-place.invariant
