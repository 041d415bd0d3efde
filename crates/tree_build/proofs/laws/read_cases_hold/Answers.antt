use Rattle.tree_build.proofs.Cases.{read_cases_hold}
use Rattle.tree_build.proofs.laws.read_cases_hold.Goals as goal

pub returns : goal.returns
returns c = read_cases_hold
