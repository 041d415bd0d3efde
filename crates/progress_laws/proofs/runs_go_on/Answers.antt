use Rattle.progress_laws.proofs.NoDead.{runs_go_on}
use Rattle.progress_laws.proofs.runs_go_on.Goals as goal

pub returns : goal.returns
returns c = runs_go_on
