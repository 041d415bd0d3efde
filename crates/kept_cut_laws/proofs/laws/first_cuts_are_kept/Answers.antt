use Rattle.kept_cut_laws.proofs.FirstCuts.{first_cuts_are_kept}
use Rattle.kept_cut_laws.proofs.laws.first_cuts_are_kept.Goals as goal

pub returns : goal.returns
returns c = first_cuts_are_kept
