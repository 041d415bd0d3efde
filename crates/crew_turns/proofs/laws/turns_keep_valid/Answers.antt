use Rattle.crew_turns.proofs.Turning.{turn_keeps}
use Rattle.crew_turns.proofs.laws.turns_keep_valid.Goals as goal

pub returns : goal.returns
returns c = turn_keeps
