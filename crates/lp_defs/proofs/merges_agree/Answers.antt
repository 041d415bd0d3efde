use Rattle.lp_defs.proofs.Merges.{merges_agree}
use Rattle.lp_defs.proofs.merges_agree.Goals as goal

pub returns : goal.returns
returns c = merges_agree
