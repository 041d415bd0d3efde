use Rattle.kept_cut_laws.proofs.Stale.{nothing_is_stale}
use Rattle.kept_cut_laws.proofs.laws.nothing_is_stale.Goals as goal

pub returns : goal.returns
returns c = nothing_is_stale
