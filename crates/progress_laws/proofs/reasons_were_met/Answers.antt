use Rattle.progress_laws.proofs.WhereMet.{reasons_were_met}
use Rattle.progress_laws.proofs.reasons_were_met.Goals as goal

pub returns : goal.returns
returns c = reasons_were_met
