use Rattle.ratio128.proofs.RatioLemmas.{sum_read, value_kept, least_passes, value_passes}
use Rattle.ratio128.proofs.parts.plus.Goals as goal

pub returns-in-Some : goal.returns-in-Some
returns-in-Some c = value_kept _ _ c.in-Some.sum (sum_read c.args.a c.args.b c.ranges.a c.ranges.b) c.in-Some.ensures c.if-sum.true

pub returns-in_default : goal.returns-in_default
returns-in_default c = least_passes _ _ c.in-Some.sum (sum_read c.args.a c.args.b c.ranges.a c.ranges.b) c.in-Some.ensures c.if-sum.false

pub returns-in_default-2 : goal.returns-in_default-2
returns-in_default-2 c = value_passes _ _ (sum_read c.args.a c.args.b c.ranges.a c.ranges.b) c.in_default.ensures
