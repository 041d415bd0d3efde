use Rattle.stoch_laws.proofs.Meaning.{law}
use Rattle.stoch_laws.proofs.stoch_files_mean_their_lines.Goals as goal

pub returns : goal.returns
returns c = law
