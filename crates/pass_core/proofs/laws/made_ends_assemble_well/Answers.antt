use Rattle.pass_core.proofs.Assembling.{made_ends_assemble_well}
use Rattle.pass_core.proofs.laws.made_ends_assemble_well.Goals as goal

pub returns : goal.returns
returns c = made_ends_assemble_well
