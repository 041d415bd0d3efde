use Rattle.progress_laws.proofs.Ways.{ways_begin}
use Rattle.progress_laws.proofs.ways_begin.Goals as goal

pub returns : goal.returns
returns c = ways_begin
