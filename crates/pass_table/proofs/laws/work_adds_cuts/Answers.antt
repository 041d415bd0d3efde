use Rattle.pass_table.proofs.Progressing.{progress}
use Rattle.pass_table.proofs.laws.work_adds_cuts.Goals as goal

pub returns : goal.returns
returns c = progress
