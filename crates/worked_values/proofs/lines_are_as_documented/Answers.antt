use Rattle.worked_values.proofs.LineRows.{lines}
use Rattle.worked_values.proofs.lines_are_as_documented.Goals as goal

pub returns : goal.returns
returns c = lines
