use Rattle.answer_laws.proofs.PoolCosts.{values_cover_pools}
use Rattle.answer_laws.proofs.laws.values_cover_pools.Goals as goal

pub returns : goal.returns
returns c = values_cover_pools
