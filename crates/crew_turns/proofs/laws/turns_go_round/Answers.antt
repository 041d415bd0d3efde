use Rattle.crew_turns.proofs.Ordering.{turns_round}
use Rattle.crew_turns.proofs.laws.turns_go_round.Goals as goal

pub returns : goal.returns
returns c = turns_round
