use Rattle.decimals.proofs.NearestLemmas.{rounded_is_nearest}
use Rattle.decimals.proofs.rounded.rounded_is_nearest.Goals as goal

pub returns : goal.returns
returns c = rounded_is_nearest
