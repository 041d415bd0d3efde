use Rattle.overflow_laws.proofs.Joins.{points_join}
use Rattle.overflow_laws.proofs.laws.points_join.Goals as goal

pub returns : goal.returns
returns c = points_join
