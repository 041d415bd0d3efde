use Rattle.std.proofs.Common.{subst}
use Rattle.std.proofs.Math.ListN.{drop_of_length-le}
use Rattle.rationals.specs.Rational.{ℚ}
use Rattle.scen_defs.specs.Values.{at}
use Rattle.scen_defs.proofs.NodeReads.{drop_read}
use Rattle.rounded_ends.specs.Runs.{IsWorth, row_good, row_worth}
use Rattle.rounded_ends.proofs.RunLemmas.{runs_next, runs_done}
use Rattle.rounded_ends.proofs.worths.add_rows.Goals as goal

pub loop-row-preserved : goal.loop-row-preserved
loop-row-preserved c =
    let y = at c.args.values.now c.args.node in
    let row = c.row-item.result in
    let w = subst (λ (z : ℚ). IsWorth c.args.side row.low row.high z c.loop-row.sum c.in-Some.next) c.get_near-multiplier.ensures c.in-Some.ensures in
    runs_next c.args.side (row_good y) (row_worth y) c.args.start c.args.rows.now c.loop-row.sum c.in-Some.next _ _ row
    (drop_read c.args.rows.now c.loop-row.row-index row c.loop-row-test.true c.row-item.is) c.loop-row.invariant w.good w.beside

pub returns : goal.returns
returns c =
    let y = at c.args.values.now c.args.node in
    runs_done c.args.side (row_good y) (row_worth y) c.args.start c.args.rows.now c.loop-row.sum _
    (drop_of_length-le c.args.rows.now c.loop-row-test.false) c.loop-row.invariant
