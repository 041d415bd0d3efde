use Rattle.worked_values.proofs.FaultRows.{faults}
use Rattle.worked_values.proofs.faults_are_in_order.Goals as goal

pub returns : goal.returns
returns c = faults
