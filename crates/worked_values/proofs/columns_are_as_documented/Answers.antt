use Rattle.worked_values.proofs.ColumnRows.{columns}
use Rattle.worked_values.proofs.columns_are_as_documented.Goals as goal

pub returns : goal.returns
returns c = columns
