use Rattle.progress_laws.proofs.NoDead.{ends_are_settled}
use Rattle.progress_laws.proofs.ends_are_settled.Goals as goal

pub returns : goal.returns
returns c = ends_are_settled
