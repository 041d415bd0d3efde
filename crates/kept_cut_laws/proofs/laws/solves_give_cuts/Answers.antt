use Rattle.kept_cut_laws.proofs.Solves.{solves_give_cuts}
use Rattle.kept_cut_laws.proofs.laws.solves_give_cuts.Goals as goal

pub returns : goal.returns
returns c = solves_give_cuts
