use Rattle.worked_values.proofs.SetRows.{ranges}
use Rattle.worked_values.proofs.ranges_are_as_documented.Goals as goal

pub returns : goal.returns
returns c = ranges
