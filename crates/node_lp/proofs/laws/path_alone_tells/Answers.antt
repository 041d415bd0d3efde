use Rattle.node_lp.proofs.PathAlone.{path_alone}
use Rattle.node_lp.proofs.laws.path_alone_tells.Goals as goal

pub returns : goal.returns
returns c = path_alone
