use Rattle.worked_values.proofs.FileRows.{missing}
use Rattle.worked_values.proofs.missing_sections_are_told.Goals as goal

pub returns : goal.returns
returns c = missing
