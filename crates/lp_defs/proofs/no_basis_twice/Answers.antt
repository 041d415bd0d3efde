use Rattle.lp_defs.proofs.Twice.{no_basis_twice}
use Rattle.lp_defs.proofs.no_basis_twice.Goals as goal

pub returns : goal.returns
returns c = no_basis_twice
