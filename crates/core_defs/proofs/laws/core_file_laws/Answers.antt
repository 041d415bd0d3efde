use Rattle.core_defs.proofs.Texts.{core_file_laws}
use Rattle.core_defs.proofs.laws.core_file_laws.Goals as goal

pub returns : goal.returns
returns c = core_file_laws
