use Rattle.answer_laws.proofs.Points.{points_meet}
use Rattle.answer_laws.proofs.laws.points_meet.Goals as goal

pub returns : goal.returns
returns c = points_meet
