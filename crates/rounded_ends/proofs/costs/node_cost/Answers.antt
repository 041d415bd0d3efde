use Rattle.std.proofs.Common.{subst}
use Rattle.std.proofs.Math.ListN.{drop_of_length-le}
use Rattle.rationals.specs.Rational.{ℚ, zero_ℚ, ◌+ℚ◌, ◌*ℚ◌}
use Rattle.rationals.specs.Sparse.{Entry}
use Rattle.scen_defs.specs.Values.{at}
use Rattle.scen_defs.proofs.NodeReads.{drop_read}
use Rattle.rounded_sums.specs.Sides.{Beside}
use Rattle.rounded_ends.proofs.RunLemmas.{Free, part, runs_next, runs_done, product_ran}
use Rattle.rounded_ends.proofs.costs.node_cost.Goals as goal

pub loop-term-preserved : goal.loop-term-preserved
loop-term-preserved c =
    let x = (at c.args.values.now c.args.node) in
    runs_next c.args.side Free (part x) zero_ℚ c.args.costs.now c.loop-term.sum c.in-Some.next _ _ c.term-item.result
    (drop_read c.args.costs.now c.loop-term.term-index c.term-item.result c.loop-term-test.true c.term-item.is) c.loop-term.invariant tt
    (subst (λ (t : Entry). Beside c.args.side (c.loop-term.sum +ℚ t.value *ℚ x t.column) c.in-Some.next) c.term.view_is
    (subst (λ (z : ℚ). Beside c.args.side (c.loop-term.sum +ℚ c.term.inside.value *ℚ z) c.in-Some.next) c.get_near-value.ensures c.in-Some.ensures))

pub returns : goal.returns
returns c = product_ran c.args.side c.args.costs.now (at c.args.values.now c.args.node) c.loop-term.sum
    (runs_done c.args.side Free (part (at c.args.values.now c.args.node)) zero_ℚ c.args.costs.now c.loop-term.sum _
    (drop_of_length-le c.args.costs.now c.loop-term-test.false) c.loop-term.invariant)
