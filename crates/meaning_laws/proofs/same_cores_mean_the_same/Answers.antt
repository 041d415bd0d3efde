use Rattle.meaning_laws.proofs.Laws.{same_cores_mean_the_same}
use Rattle.meaning_laws.proofs.same_cores_mean_the_same.Goals as goal

pub returns : goal.returns
returns c = same_cores_mean_the_same
