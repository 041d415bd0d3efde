use Rattle.worked_values.proofs.RowRows.{rows}
use Rattle.worked_values.proofs.rows_are_as_documented.Goals as goal

pub returns : goal.returns
returns c = rows
