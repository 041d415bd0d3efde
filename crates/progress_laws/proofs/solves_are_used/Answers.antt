use Rattle.progress_laws.proofs.SolvesUsed.{solves_are_used}
use Rattle.progress_laws.proofs.solves_are_used.Goals as goal

pub returns : goal.returns
returns c = solves_are_used
