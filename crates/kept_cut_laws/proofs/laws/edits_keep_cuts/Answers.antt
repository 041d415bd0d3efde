use Rattle.kept_cut_laws.proofs.Edits.{edits_keep_cuts}
use Rattle.kept_cut_laws.proofs.laws.edits_keep_cuts.Goals as goal

pub returns : goal.returns
returns c = edits_keep_cuts
