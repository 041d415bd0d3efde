use Rattle.worked_values.proofs.StochRows.{entries}
use Rattle.worked_values.proofs.entries_are_as_documented.Goals as goal

pub returns : goal.returns
returns c = entries
