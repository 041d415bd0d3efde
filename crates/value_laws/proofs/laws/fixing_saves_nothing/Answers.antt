use Rattle.value_laws.proofs.Fixing.{feasible_points_start_within, fixed_points_are_feasible, fixing_keeps_lower_ends}
use Rattle.value_laws.proofs.laws.fixing_saves_nothing.Goals as goal

pub returns : goal.returns
returns c = record { starts = feasible_points_start_within; feasible = fixed_points_are_feasible; ends = fixing_keeps_lower_ends }
