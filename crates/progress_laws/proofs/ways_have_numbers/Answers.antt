use Rattle.progress_laws.proofs.Ways.{ways_have_numbers}
use Rattle.progress_laws.proofs.ways_have_numbers.Goals as goal

pub returns : goal.returns
returns c = ways_have_numbers
