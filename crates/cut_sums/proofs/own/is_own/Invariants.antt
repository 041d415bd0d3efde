use Rattle.std.proofs.Common.{◌≡◌, drop, length, ◌≤◌, ◌-◌}
use Rattle.cut_defs.specs.Data.{is_own}
use Rattle.std.proofs.Common.{false}
use Rattle.cut_sums.proofs.own.is_own.Given as goal

abbrev pub invariant-search : goal.invariant-search
invariant-search l = record {
  order : l.low ≤ l.high;
  within : l.high ≤ length l.bounds;
  kept : is_own (drop l.low l.bounds) l.column ≡ is_own l.bounds l.column;
  past : is_own (drop l.high l.bounds) l.column ≡ false;
}

abbrev pub decreases-search : goal.decreases-search
decreases-search l = l.high - l.low
