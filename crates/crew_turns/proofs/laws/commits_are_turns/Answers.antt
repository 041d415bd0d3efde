use Rattle.crew_turns.proofs.Turned.{commit_turns}
use Rattle.crew_turns.proofs.laws.commits_are_turns.Goals as goal

pub returns : goal.returns
returns c = commit_turns
