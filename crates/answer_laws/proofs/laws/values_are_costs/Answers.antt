use Rattle.answer_laws.proofs.Costs.{values_are_costs}
use Rattle.answer_laws.proofs.laws.values_are_costs.Goals as goal

pub returns : goal.returns
returns c = values_are_costs
