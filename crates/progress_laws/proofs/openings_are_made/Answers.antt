use Rattle.progress_laws.proofs.Openings.{openings_are_made}
use Rattle.progress_laws.proofs.openings_are_made.Goals as goal

pub returns : goal.returns
returns c = openings_are_made
