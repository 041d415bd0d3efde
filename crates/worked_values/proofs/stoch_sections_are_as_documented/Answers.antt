use Rattle.worked_values.proofs.StochRows.{stoch_sections}
use Rattle.worked_values.proofs.stoch_sections_are_as_documented.Goals as goal

pub returns : goal.returns
returns c = stoch_sections
