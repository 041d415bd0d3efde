use Rattle.crew_turns.proofs.Working.{turns_add_cuts}
use Rattle.crew_turns.proofs.laws.turns_add_cuts.Goals as goal

pub returns : goal.returns
returns c = turns_add_cuts
