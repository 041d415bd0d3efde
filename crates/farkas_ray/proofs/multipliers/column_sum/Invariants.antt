use Rattle.std.proofs.Common.{◌≡◌, drop}
use Rattle.rationals.specs.Rational.{zero_ℚ}
use Rattle.farkas_ray.specs.Sums.{column_from}
use Rattle.farkas_ray.proofs.multipliers.column_sum.Given as goal

abbrev pub invariant-loop-row : goal.invariant-loop-row
invariant-loop-row l = column_from l.sum (drop l.row l.rows) (drop l.row l.duals) l.column ≡ column_from zero_ℚ l.rows l.duals l.column
