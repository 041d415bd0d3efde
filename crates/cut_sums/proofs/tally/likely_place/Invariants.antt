use Rattle.std.proofs.Common.{◌≤◌, ◌-◌, length}
use Rattle.cut_sums.proofs.tally.likely_place.Given as goal

abbrev pub invariant-search : goal.invariant-search
invariant-search l = record {
  order : l.low ≤ l.high;
  within : l.high ≤ length l.tally;
}

abbrev pub decreases-search : goal.decreases-search
decreases-search l = l.high - l.low
