use Rattle.std.proofs.Common.{◌≡◌, ◌∙◌, ap, sym, subst, suc, drop, get_or, ◌+◌, ◌++◌, ◌∷◌, [], length, arith, Ok, Err, add-one, drop_of_length-le}
use Rattle.rationals.specs.Rational.{zero_ℚ}
use Rattle.std.proofs.lemmas.List.{at_drop_more}
use Rattle.scen_defs.specs.Program.{scenarios_content}
use Rattle.scen_tree.specs.declared.position.Position.TheVariants.{Dropped}
use Rattle.scen_tree.specs.Chances.{live_sum, live_sums_from, gathered_from}
use Rattle.scen_tree.specs.Sums.{sums_through}
use Rattle.scen_defs.specs.Walks.{total_from}
use Rattle.scen_tree.proofs.SumLemmas.{passed, sums_at, sums_length, gathered_more, gathered_ends}
use Rattle.scen_tree.proofs.totals.totals.Goals as goal
use Rattle.scen_tree.proofs.totals.totals.Goals.{then-node-len+in_ok-total+in_ok-push, else-node-len}

pub returns-in_err-total : goal.returns-in_err-total
returns-in_err-total c =
    let node = c.loop-node.node in
    let positions = c.args.positions.now in
    let scenarios = scenarios_content c.args.scenarios.now in
    let sum : c.index.result.now ≡ total_from node zero_ℚ scenarios =
    c.index.ensures ∙ ap (λ sums. get_or sums node c.index.result.now) c.in_ok-sums.ensures ∙ sums_at (length positions) node scenarios c.index.result.now c.loop-node-test.true in
    let live : live_sum (get_or positions node Dropped) (total_from node zero_ℚ scenarios) ≡ Err c.in_err-total.field-0.0 =
    ap (live_sum (get_or positions node Dropped)) (sym sum) ∙ sym c.live_sum.ensures ∙ c.in_err-total.was in
    passed _ _ _ _ c.from_residual-in_err-total.ensures.1
    (sym c.loop-node.invariant
    ∙ at_drop_more (λ rest. gathered_from c.loop-node.totals.items (live_sums_from node rest scenarios)) positions node Dropped c.loop-node-test.true
    ∙ gathered_ends c.loop-node.totals.items _ _ (live_sums_from (suc node) (drop (node + 1) positions) scenarios) live)

pub loop-node-preserved : goal.loop-node-preserved
loop-node-preserved c =
    let node = c.loop-node.node in
    let positions = c.args.positions.now in
    let scenarios = scenarios_content c.args.scenarios.now in
    elim c.if-node-len.branch [
      | then-node-len+in_ok-total+in_ok-push w ↦
          (let sum : w.index.result.now ≡ total_from node zero_ℚ scenarios =
          w.index.ensures ∙ ap (λ sums. get_or sums node w.index.result.now) c.in_ok-sums.ensures ∙ sums_at (length positions) node scenarios w.index.result.now c.loop-node-test.true in
          let live : live_sum (get_or positions node Dropped) (total_from node zero_ℚ scenarios) ≡ Ok w.in_ok-total.total =
          ap (live_sum (get_or positions node Dropped)) (sym sum) ∙ sym w.live_sum.ensures ∙ w.in_ok-total.was in
          ap (λ v. gathered_from v.items (live_sums_from (node + 1) (drop (node + 1) positions) scenarios)) w.totals-is
          ∙ ap (λ totals. gathered_from totals (live_sums_from (node + 1) (drop (node + 1) positions) scenarios)) w.in_ok-push.ensures.items
          ∙ ap (λ n. gathered_from (c.loop-node.totals.items ++ w.in_ok-total.total ∷ []) (live_sums_from n (drop (node + 1) positions) scenarios)) (add-one node)
          ∙ sym (gathered_more c.loop-node.totals.items _ w.in_ok-total.total (live_sums_from (suc node) (drop (node + 1) positions) scenarios) live)
          ∙ sym (at_drop_more (λ rest. gathered_from c.loop-node.totals.items (live_sums_from node rest scenarios)) positions node Dropped c.loop-node-test.true)
          ∙ c.loop-node.invariant)
      | else-node-len w ↦ absurd (omega (arith, w.if-node-len.false, c.len.ensures, ap length c.in_ok-sums.ensures ∙ sums_length 0 (length positions) scenarios, c.loop-node-test.true))
    ]

pub returns : goal.returns
returns c =
    let positions = c.args.positions.now in
    let scenarios = scenarios_content c.args.scenarios.now in
    sym (subst (λ left. gathered_from c.loop-node.totals.items (live_sums_from c.loop-node.node left scenarios) ≡ gathered_from [] (live_sums_from 0 positions scenarios))
    (drop_of_length-le positions c.loop-node-test.false) c.loop-node.invariant)
