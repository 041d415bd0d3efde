use Rattle.crew_turns.proofs.Beside.{fit_besides}
use Rattle.crew_turns.proofs.laws.tables_fit_besides.Goals as goal

pub returns : goal.returns
returns c = fit_besides
