use Rattle.worked_values.proofs.SetRows.{right_sides}
use Rattle.worked_values.proofs.right_sides_are_as_documented.Goals as goal

pub returns : goal.returns
returns c = right_sides
