use Rattle.lp_defs.proofs.Feasible.{unit_columns_are_feasible}
use Rattle.lp_defs.proofs.unit_columns_are_feasible.Goals as goal

pub returns : goal.returns
returns c = unit_columns_are_feasible
