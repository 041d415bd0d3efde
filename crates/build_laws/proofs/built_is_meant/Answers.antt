use Rattle.build_laws.proofs.Laws.{built_is_meant}
use Rattle.build_laws.proofs.built_is_meant.Goals as goal

pub returns : goal.returns
returns c = built_is_meant
