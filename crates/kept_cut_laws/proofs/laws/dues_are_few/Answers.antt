use Rattle.kept_cut_laws.proofs.Dues.{dues_are_few}
use Rattle.kept_cut_laws.proofs.laws.dues_are_few.Goals as goal

pub returns : goal.returns
returns c = dues_are_few
