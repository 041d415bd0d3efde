use Rattle.frac128.proofs.LiteralExact.{literal_laws}
use Rattle.frac128.proofs.text.literals_are_exact.Goals as goal

pub returns : goal.returns
returns c = literal_laws
