use Rattle.farkas_ray.proofs.Exact.{next_column}
use Rattle.farkas_ray.proofs.multipliers.has_good_sums.Goals as goal

pub loop-column-preserved : goal.loop-column-preserved
loop-column-preserved c = next_column c.args.rows.now c.args.duals.now c.loop-column.column c.args.columns c.loop-column.is_good c.is_still_good-is_good.result c.column_sum.result c.in_ok-sum.sum _ c.loop-column-test.true c.column_sum.ensures c.in_ok-sum.was c.is_still_good-is_good.ensures c.loop-column.invariant
