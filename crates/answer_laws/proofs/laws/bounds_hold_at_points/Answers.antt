use Rattle.answer_laws.proofs.Bounds.{bounds_hold_at_points}
use Rattle.answer_laws.proofs.laws.bounds_hold_at_points.Goals as goal

pub returns : goal.returns
returns c = bounds_hold_at_points
