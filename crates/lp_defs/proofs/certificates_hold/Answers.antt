use Rattle.lp_defs.proofs.Meaning.{certificates_hold}
use Rattle.lp_defs.proofs.certificates_hold.Goals as goal

pub returns : goal.returns
returns c = certificates_hold
