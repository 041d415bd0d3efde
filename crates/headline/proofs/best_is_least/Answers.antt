use Rattle.headline.proofs.SoLemmas.{best_is_least}
use Rattle.headline.proofs.best_is_least.Goals as goal

pub returns : goal.returns
returns c = best_is_least
