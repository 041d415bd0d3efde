use Rattle.worked_values.proofs.SectionRows.{sections}
use Rattle.worked_values.proofs.sections_are_as_documented.Goals as goal

pub returns : goal.returns
returns c = sections
