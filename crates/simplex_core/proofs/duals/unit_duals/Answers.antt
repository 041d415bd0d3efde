use Rattle.std.proofs.Common.{ap, ◌∙◌, ◌+◌}
use Rattle.rationals.specs.Rational.{neg_ℚ}
use Rattle.simplex_core.proofs.Counting.{one_more}
use Rattle.simplex_core.proofs.duals.unit_duals.Goals as goal

pub loop-column-preserved : goal.loop-column-preserved
loop-column-preserved c = one_more c.loop-column.duals.items c.push.new.self.items _ c.loop-column.column (c.args.first + c.args.count) c.args.objective.now c.neg.result c.loop-column-test.true c.in_ok-push.ensures.items (c.neg.ensures ∙ ap neg_ℚ c.value_at.ensures) c.loop-column.invariant
