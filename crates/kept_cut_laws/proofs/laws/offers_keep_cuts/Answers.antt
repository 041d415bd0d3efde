use Rattle.kept_cut_laws.proofs.Offers.{offers_keep_cuts}
use Rattle.kept_cut_laws.proofs.laws.offers_keep_cuts.Goals as goal

pub returns : goal.returns
returns c = offers_keep_cuts
