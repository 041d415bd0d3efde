use Rattle.progress_laws.proofs.Refusals.{never_refuses}
use Rattle.progress_laws.proofs.never_refuses.Goals as goal

pub returns : goal.returns
returns c = never_refuses
