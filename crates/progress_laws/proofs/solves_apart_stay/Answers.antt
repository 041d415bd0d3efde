use Rattle.progress_laws.proofs.Apart.{stays_begun}
use Rattle.progress_laws.proofs.solves_apart_stay.Goals as goal

pub returns : goal.returns
returns c = stays_begun
