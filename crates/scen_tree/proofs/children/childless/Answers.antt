use Rattle.std.proofs.Common.{◌≡◌, ◌∙◌, ap, sym, subst, ◌++◌, ◌+◌, drop, append-nil, drop_of_length-le}
use Rattle.std.proofs.lemmas.List.{at_drop_more}
use Rattle.scen_tree.specs.declared.position.Position.TheVariants.{Dropped}
use Rattle.scen_tree.specs.Trees.{lists, empty_lists}
use Rattle.scen_tree.proofs.ChildLemmas.{childless_more}
use Rattle.scen_tree.proofs.children.childless.Goals as goal

pub loop-position-preserved : goal.loop-position-preserved
loop-position-preserved c =
    let i = c.loop-position._position-index in
    ap (λ all. lists all ++ empty_lists (drop (i + 1) c.args.positions.now)) c.in_ok-push.ensures.items
    ∙ childless_more c.loop-position.all.items _ Dropped (drop (i + 1) c.args.positions.now) c.new.ensures.items
    ∙ sym (at_drop_more (λ rest. lists c.loop-position.all.items ++ empty_lists rest) c.args.positions.now i Dropped c.loop-position-test.true)
    ∙ c.loop-position.invariant

pub returns : goal.returns
returns c =
    let all = lists c.loop-position.all.items in
    sym (append-nil all) ∙ subst (λ left. all ++ empty_lists left ≡ empty_lists c.args.positions.now) (drop_of_length-le c.args.positions.now c.loop-position-test.false) c.loop-position.invariant
