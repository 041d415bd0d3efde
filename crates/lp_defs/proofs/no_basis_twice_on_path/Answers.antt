use Rattle.lp_defs.proofs.Twice.{no_basis_twice_on_path}
use Rattle.lp_defs.proofs.no_basis_twice_on_path.Goals as goal

pub returns : goal.returns
returns c = no_basis_twice_on_path
