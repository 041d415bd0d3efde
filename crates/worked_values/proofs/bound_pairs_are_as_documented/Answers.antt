use Rattle.worked_values.proofs.PairRows.{bound_pairs}
use Rattle.worked_values.proofs.bound_pairs_are_as_documented.Goals as goal

pub returns : goal.returns
returns c = bound_pairs
