use Rattle.progress_laws.proofs.Finished.{ends_are_finished}
use Rattle.progress_laws.proofs.ends_are_finished.Goals as goal

pub returns : goal.returns
returns c = ends_are_finished
