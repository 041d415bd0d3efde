use Rattle.rounded_sums.proofs.SplitLemmas.{zeros}
use Rattle.rounded_sums.proofs.split.no_parts.Goals as goal

pub returns : goal.returns
returns c = zeros 32 c.zero.result c.zero.ensures
