use Rattle.worked_values.proofs.EditRows.{commands}
use Rattle.worked_values.proofs.commands_are_as_documented.Goals as goal

pub returns : goal.returns
returns c = commands
