use Rattle.lp_defs.proofs.Certified.{solutions_are_certified}
use Rattle.lp_defs.proofs.solutions_are_certified.Goals as goal

pub returns : goal.returns
returns c = solutions_are_certified
