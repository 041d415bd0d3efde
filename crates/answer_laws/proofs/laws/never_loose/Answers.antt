use Rattle.answer_laws.proofs.Bounds.{never_loose}
use Rattle.answer_laws.proofs.laws.never_loose.Goals as goal

pub returns : goal.returns
returns c = never_loose
