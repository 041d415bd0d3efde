use Rattle.crew_turns.proofs.Sheltered.{keeps_clear}
use Rattle.crew_turns.proofs.laws.rounds_keep_clear.Goals as goal

pub returns : goal.returns
returns c = keeps_clear
