use Rattle.headline.proofs.SoLemmas.{unchecked_is_so, held_is_so, risk_is_so}
use Rattle.headline.proofs.true_reports_are_so.Goals as goal

pub returns : goal.returns
returns c = record { solved = unchecked_is_so; checked = held_is_so; risk = risk_is_so }
