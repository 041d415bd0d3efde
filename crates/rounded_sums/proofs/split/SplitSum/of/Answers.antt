use Rattle.rounded_sums.specs.Parts.{sum_of}
use Rattle.rounded_sums.proofs.SplitLemmas.{alone}
use Rattle.rounded_sums.proofs.split.SplitSum.of.Goals as goal

pub returns : goal.returns
returns c = alone c.args.whole (sum_of c.no_parts.result) c.no_parts.ensures
