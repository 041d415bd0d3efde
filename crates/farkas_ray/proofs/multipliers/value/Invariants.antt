use Rattle.std.proofs.Common.{◌≡◌, drop}
use Rattle.rationals.specs.Rational.{zero_ℚ}
use Rattle.farkas_ray.specs.Sums.{value_from}
use Rattle.farkas_ray.proofs.multipliers.value.Given as goal

abbrev pub invariant-loop-row : goal.invariant-loop-row
invariant-loop-row l = value_from l.sum (drop l.row l.duals) (drop l.row l.right) ≡ value_from zero_ℚ l.duals l.right
