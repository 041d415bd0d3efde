use Rattle.crew_turns.proofs.Crewing.{crews_turn}
use Rattle.crew_turns.proofs.laws.crews_take_turns.Goals as goal

pub returns : goal.returns
returns c = crews_turn
