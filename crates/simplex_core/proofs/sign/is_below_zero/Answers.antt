use Rattle.simplex_core.proofs.Signs.{below}
use Rattle.simplex_core.proofs.sign.is_below_zero.Goals as goal

pub returns : goal.returns
returns c = below c.sign.result c.args.value c.sign.ensures
