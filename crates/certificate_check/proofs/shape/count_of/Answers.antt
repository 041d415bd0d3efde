use Rattle.std.proofs.Common.{sym}
use Rattle.certificate_check.proofs.HoldsLemmas.{scenario_places}
use Rattle.certificate_check.proofs.shape.count_of.Goals as goal

pub returns : goal.returns
returns c = sym (scenario_places c.args.scenarios.now)
