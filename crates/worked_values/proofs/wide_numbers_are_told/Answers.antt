use Rattle.worked_values.proofs.NumberRows.{wide_numbers}
use Rattle.worked_values.proofs.wide_numbers_are_told.Goals as goal

pub returns : goal.returns
returns c = wide_numbers
