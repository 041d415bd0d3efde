use Rattle.pass_core.proofs.Assembling.{roots_assemble_well}
use Rattle.pass_core.proofs.laws.roots_assemble_well.Goals as goal

pub returns : goal.returns
returns c = roots_assemble_well
