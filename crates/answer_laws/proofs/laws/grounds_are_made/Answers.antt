use Rattle.answer_laws.proofs.Grounds.{grounds_are_made}
use Rattle.answer_laws.proofs.laws.grounds_are_made.Goals as goal

pub returns : goal.returns
returns c = grounds_are_made
