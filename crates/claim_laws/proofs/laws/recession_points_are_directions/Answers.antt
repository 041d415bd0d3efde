use Rattle.claim_laws.proofs.Directions.{recession_points_are_directions}
use Rattle.claim_laws.proofs.laws.recession_points_are_directions.Goals as goal

pub returns : goal.returns
returns c = recession_points_are_directions
