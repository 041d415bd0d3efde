use Rattle.value_laws.proofs.Knowing.{feasible_points_serve, expected_ends_are_lower}
use Rattle.value_laws.proofs.laws.knowing_costs_nothing.Goals as goal

pub returns : goal.returns
returns c = record { serves = feasible_points_serve; expected = expected_ends_are_lower }
