use Rattle.std.proofs.Common.{◌≡◌, ◌≤◌, ◌-◌, length, drop}
use Rattle.rationals.specs.Rational.{zero_ℚ}
use Rattle.scen_defs.specs.Values.{at}
use Rattle.scen_defs.proofs.values.value_in.Given as goal

abbrev pub invariant-search : goal.invariant-search
invariant-search l = record {
  order : l.low ≤ l.high;
  within : l.high ≤ length l.items;
  kept : at (drop l.low l.items) l.node l.index ≡ at l.items l.node l.index;
  past : at (drop l.high l.items) l.node l.index ≡ zero_ℚ;
}

abbrev pub decreases-search : goal.decreases-search
decreases-search l = l.high - l.low
