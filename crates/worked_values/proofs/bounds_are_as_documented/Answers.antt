use Rattle.worked_values.proofs.BoundRows.{bounds}
use Rattle.worked_values.proofs.bounds_are_as_documented.Goals as goal

pub returns : goal.returns
returns c = bounds
