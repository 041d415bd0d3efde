use Rattle.progress_laws.proofs.Ways.{reports_keep_way}
use Rattle.progress_laws.proofs.reports_keep_way.Goals as goal

pub returns : goal.returns
returns c = reports_keep_way
