use Rattle.joined_laws.proofs.Policies.{values_cover}
use Rattle.joined_laws.proofs.joins.values_cover.Goals as goal

pub returns : goal.returns
returns c = values_cover
