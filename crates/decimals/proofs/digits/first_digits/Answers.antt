use Rattle.std.proofs.Common.{◌≡◌, ◌+◌, ◌*◌, ◌/◌, ◌^◌, ◌<◌, ◌≤◌, arith}
use Rattle.decimals.specs.Rounded.{IsFloor}
use Rattle.decimals.proofs.DigitSteps.{ten_zero, floor_low, floor_high, quotient_low, quotient_high}
use Rattle.decimals.proofs.digits.first_digits.Goals as goal

pub returns-then-first-ge-LEAST-clause-floor : goal.returns-then-first-ge-LEAST-clause-floor
returns-then-first-ge-LEAST-clause-floor c =
    let n = c.args.num in
    let d = c.args.den in
    let s = c.shortened.result in
    let p = 10 ^ s.up in
    let low : s.number * (p * d) ≤ n = floor_low n d (n / d) s.number p (quotient_low n d) c.shortened.ensures.low in
    let next : n / d + 1 ≤ (s.number + 1) * p = omega (arith, c.shortened.ensures.high) in
    let high : n < (s.number + 1) * (p * d) = floor_high n d (n / d) s.number p (quotient_high n d c.requires.above_zero) next in
    let one : 10 ^ 0 ≡ 1 = ten_zero in
    record {
      low = rw c.shortened.ensures.down (omega arith);
      high = rw c.shortened.ensures.down (omega arith);
    }
