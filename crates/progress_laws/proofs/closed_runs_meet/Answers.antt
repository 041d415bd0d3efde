use Rattle.progress_laws.proofs.Meeting.{closed_runs_meet}
use Rattle.progress_laws.proofs.closed_runs_meet.Goals as goal

pub returns : goal.returns
returns c = closed_runs_meet
