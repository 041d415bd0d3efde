-- One share more, or the first quotient that passes.
use Rattle.std.proofs.Common.{◌≡◌, ◌∙◌, ap, sym, subst, suc, drop, get_or, ◌+◌, ◌++◌, ◌∷◌, [], Ok, Err, add-one, drop_of_length-le}
use Rattle.rationals.specs.Rational.{zero_ℚ}
use Rattle.std.proofs.lemmas.List.{at_drop_more}
use Rattle.scen_tree.specs.declared.position.Position.TheVariants.{Dropped}
use Rattle.scen_tree.specs.Chances.{share_walk, shares_from, gathered_from}
use Rattle.scen_tree.proofs.SumLemmas.{passed, gathered_more, gathered_ends}
use Rattle.scen_tree.proofs.shares.shares.Goals as goal

pub returns-in_err-share : goal.returns-in_err-share
returns-in_err-share c =
    let node = c.loop-node.node in
    let positions = c.args.positions.now in
    let totals = c.args.totals.now in
    let here : share_walk totals (get_or totals node zero_ℚ) (get_or positions node Dropped) ≡ Err c.in_err-share.field-0.0 =
    ap (λ total. share_walk totals total (get_or positions node Dropped)) (sym c.number_at-total.ensures) ∙ sym c.share.ensures ∙ c.in_err-share.was in
    passed _ _ _ _ c.from_residual-in_err-share.ensures.1
    (sym c.loop-node.invariant
    ∙ at_drop_more (λ rest. gathered_from c.loop-node.shares.items (shares_from totals node rest)) positions node Dropped c.loop-node-test.true
    ∙ gathered_ends c.loop-node.shares.items _ _ (shares_from totals (suc node) (drop (node + 1) positions)) here)

pub loop-node-preserved : goal.loop-node-preserved
loop-node-preserved c =
    let node = c.loop-node.node in
    let positions = c.args.positions.now in
    let totals = c.args.totals.now in
    let shares = c.loop-node.shares.items in
    let rest = drop (node + 1) positions in
    let here : share_walk totals (get_or totals node zero_ℚ) (get_or positions node Dropped) ≡ Ok c.in_ok-share.share =
    ap (λ total. share_walk totals total (get_or positions node Dropped)) (sym c.number_at-total.ensures) ∙ sym c.share.ensures ∙ c.in_ok-share.was in
    ap (λ all. gathered_from all (shares_from totals (node + 1) rest)) c.in_ok-push.ensures.items
    ∙ ap (λ n. gathered_from (shares ++ c.in_ok-share.share ∷ []) (shares_from totals n rest)) (add-one node)
    ∙ sym (gathered_more shares _ c.in_ok-share.share (shares_from totals (suc node) rest) here)
    ∙ sym (at_drop_more (λ left. gathered_from shares (shares_from totals node left)) positions node Dropped c.loop-node-test.true)
    ∙ c.loop-node.invariant

pub returns : goal.returns
returns c =
    let totals = c.args.totals.now in
    let positions = c.args.positions.now in
    sym (subst (λ left. gathered_from c.loop-node.shares.items (shares_from totals c.loop-node.node left) ≡ gathered_from [] (shares_from totals 0 positions))
    (drop_of_length-le positions c.loop-node-test.false) c.loop-node.invariant)
