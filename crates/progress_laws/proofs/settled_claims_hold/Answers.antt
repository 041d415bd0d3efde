use Rattle.progress_laws.proofs.Claimed.{settled_claims_hold}
use Rattle.progress_laws.proofs.settled_claims_hold.Goals as goal

pub returns : goal.returns
returns c = settled_claims_hold
