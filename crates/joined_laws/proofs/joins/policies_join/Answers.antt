use Rattle.joined_laws.proofs.Policies.{policies_join}
use Rattle.joined_laws.proofs.joins.policies_join.Goals as goal

pub returns : goal.returns
returns c = policies_join
