use Rattle.std.proofs.Common.{◌≡◌, ◌<◌, ◌+◌, ◌-◌, ◌*◌, ◌^◌}
use Rattle.decimals.proofs.digits.lengthened.Given as goal

abbrev pub invariant-lengthen : goal.invariant-lengthen
invariant-lengthen l = record {
  most : l.number < 10000000000000;
  rest : l.rest < l.fn.den;
  kept : l.number * l.fn.den + l.rest ≡ l.fn.num * 10 ^ l.down;
}

abbrev pub decreases-lengthen : goal.decreases-lengthen
decreases-lengthen l = 1000000000000 * l.fn.den - (l.number * l.fn.den + l.rest)
