use Rattle.tree_build.proofs.Fields.{read_periods_are_named}
use Rattle.tree_build.proofs.laws.read_periods_are_named.Goals as goal

pub returns : goal.returns
returns c = read_periods_are_named
