use Rattle.progress_laws.proofs.Ways.{solves_keep_way}
use Rattle.progress_laws.proofs.solves_keep_way.Goals as goal

pub returns : goal.returns
returns c = solves_keep_way
