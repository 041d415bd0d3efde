use Rattle.crew_turns.proofs.Reading.{stays_read}
use Rattle.crew_turns.proofs.laws.reads_stay.Goals as goal

pub returns : goal.returns
returns c = stays_read
