use Rattle.std.proofs.Common.{sym}
use Rattle.report_text.proofs.ShownLemmas.{scenario_count}
use Rattle.report_text.proofs.show.count_of.Goals as goal

pub returns : goal.returns
returns c = sym (scenario_count c.args.scenarios.now)
