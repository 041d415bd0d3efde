use Rattle.worked_values.proofs.NumberRows.{numbers}
use Rattle.worked_values.proofs.numbers_are_read.Goals as goal

pub returns : goal.returns
returns c = numbers
