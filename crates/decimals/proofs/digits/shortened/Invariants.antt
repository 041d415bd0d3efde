use Rattle.std.proofs.Common.{◌≤◌, ◌<◌, ◌+◌, ◌*◌, ◌^◌}
use Rattle.decimals.proofs.digits.shortened.Given as goal

abbrev pub invariant-shorten : goal.invariant-shorten
invariant-shorten l = record {
  least : 1000000000000 ≤ l.number;
  low : l.number * 10 ^ l.up ≤ l.fn.whole;
  high : l.fn.whole < (l.number + 1) * 10 ^ l.up;
}

abbrev pub decreases-shorten : goal.decreases-shorten
decreases-shorten l = l.number
