use Rattle.worked_values.proofs.FileRows.{file_says}
use Rattle.worked_values.proofs.the_file_says.Goals as goal

pub returns : goal.returns
returns c = file_says
