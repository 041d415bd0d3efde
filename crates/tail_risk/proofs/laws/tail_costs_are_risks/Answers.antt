use Rattle.tail_risk.proofs.RiskProofs.{risk_is_attained, risk_is_least}
use Rattle.tail_risk.proofs.laws.tail_costs_are_risks.Goals as goal

pub returns : goal.returns
returns c = record { attained = risk_is_attained; least = risk_is_least }
