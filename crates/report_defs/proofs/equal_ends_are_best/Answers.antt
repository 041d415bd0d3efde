use Rattle.report_defs.proofs.BestLemmas.{equal_ends_are_best}
use Rattle.report_defs.proofs.equal_ends_are_best.Goals as goal

pub returns : goal.returns
returns c = equal_ends_are_best
