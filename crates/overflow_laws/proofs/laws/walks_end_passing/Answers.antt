use Rattle.overflow_laws.proofs.Ends.{walks_end_passing}
use Rattle.overflow_laws.proofs.laws.walks_end_passing.Goals as goal

pub returns : goal.returns
returns c = walks_end_passing
