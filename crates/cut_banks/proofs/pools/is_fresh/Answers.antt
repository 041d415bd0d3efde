use Rattle.cut_banks.proofs.Fresh.{fresh_is}
use Rattle.cut_banks.proofs.pools.is_fresh.Goals as goal

pub returns : goal.returns
returns c = fresh_is c.args.pool.now.known c.cut.result.now c.args.cut.now c.is_fresh.result c.cut.ensures c.is_fresh.ensures
