use Rattle.std.proofs.Common.{◌≤◌, ◌-◌, length}
use Rattle.node_lp.proofs.shown.place_of_row.Given as goal

abbrev pub invariant-search : goal.invariant-search
invariant-search l = record {
  order : l.low ≤ l.high;
  within : l.high ≤ length l.rows;
}

abbrev pub decreases-search : goal.decreases-search
decreases-search l = l.high - l.low
