use Rattle.progress_laws.proofs.Ways.{edits_keep_way}
use Rattle.progress_laws.proofs.edits_keep_way.Goals as goal

pub returns : goal.returns
returns c = edits_keep_way
