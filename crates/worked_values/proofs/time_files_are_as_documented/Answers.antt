use Rattle.worked_values.proofs.TimeRows.{time_files}
use Rattle.worked_values.proofs.time_files_are_as_documented.Goals as goal

pub returns : goal.returns
returns c = time_files
