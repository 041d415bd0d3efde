use Rattle.std.proofs.Common.{◌≡◌, ◌-◌, true}
use Rattle.farkas_ray.specs.Sums.{columns_from}
use Rattle.farkas_ray.proofs.multipliers.has_good_sums.Given as goal

abbrev pub invariant-loop-column : goal.invariant-loop-column
invariant-loop-column l = columns_from l.rows l.duals l.column (l.columns - l.column) l.is_good ≡ columns_from l.rows l.duals 0 l.columns true
