use Rattle.claim_laws.proofs.Telling.{claims_are_told}
use Rattle.claim_laws.proofs.laws.claims_are_told.Goals as goal

pub returns : goal.returns
returns c = claims_are_told
