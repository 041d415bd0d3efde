use Rattle.joined_laws.proofs.Costs.{joined_points_cost}
use Rattle.joined_laws.proofs.joins.joined_points_cost.Goals as goal

pub returns : goal.returns
returns c = joined_points_cost
