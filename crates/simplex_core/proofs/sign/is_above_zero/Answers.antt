use Rattle.simplex_core.proofs.Signs.{above}
use Rattle.simplex_core.proofs.sign.is_above_zero.Goals as goal

pub returns : goal.returns
returns c = above c.sign.result c.args.value c.sign.ensures
