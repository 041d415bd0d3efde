use Rattle.simplex_core.proofs.Signs.{zero_is}
use Rattle.simplex_core.proofs.sign.is_zero.Goals as goal

pub returns : goal.returns
returns c = zero_is c.is_zero.result c.args.value c.is_zero.ensures.0 c.is_zero.ensures.1
