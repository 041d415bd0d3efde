use Rattle.answer_laws.proofs.Offers.{offers_hold}
use Rattle.answer_laws.proofs.laws.offers_hold.Goals as goal

pub returns : goal.returns
returns c = offers_hold
