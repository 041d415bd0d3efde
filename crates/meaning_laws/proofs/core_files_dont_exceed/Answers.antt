use Rattle.meaning_laws.proofs.Limits.{core_files_dont_exceed}
use Rattle.meaning_laws.proofs.core_files_dont_exceed.Goals as goal

pub returns : goal.returns
returns c = core_files_dont_exceed
