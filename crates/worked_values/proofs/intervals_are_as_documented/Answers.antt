use Rattle.worked_values.proofs.IntervalRows.{intervals}
use Rattle.worked_values.proofs.intervals_are_as_documented.Goals as goal

pub returns : goal.returns
returns c = intervals
